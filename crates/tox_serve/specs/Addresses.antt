-- Addresses as the system takes them: with a host, and without brackets where it looks the host up.
use Rattle.std.specs.Prelude.{ℕ, ◌==◌, ◌&&◌, Bool, false, not, length, List, [], ◌∷◌, ◌++◌, if◌then◌else◌}
use Rattle.std.specs.Char.{is_ascii_digit}
use Rattle.std.specs.List.{after_first, before_first, list_all, list_any}
use Rattle.tox_time.specs.Text.{is_colon}

-- whether a colon stands first in an address, and no other behind it
abbrev pub has_no_host : List ℕ → Bool
has_no_host [] = false
has_no_host (first ∷ rest) = is_colon first && not (list_any is_colon rest)

abbrev pub is_opening : ℕ → Bool
is_opening byte = byte == 91

abbrev pub is_closing : ℕ → Bool
is_closing byte = byte == 93

abbrev pub is_percent : ℕ → Bool
is_percent byte = byte == 37

-- whether a host has a scope that is no number, as `fe80::1%eth0`: something else than digits stands behind the first percent sign
abbrev pub has_named_scope : List ℕ → Bool
has_named_scope host = not (list_all is_ascii_digit (after_first is_percent host))

-- what stands in the brackets of an address, and what behind them
abbrev pub bracketed_host : List ℕ → List ℕ
bracketed_host address = before_first is_closing (after_first is_opening address)

abbrev pub bracketed_port : List ℕ → List ℕ
bracketed_port address = after_first is_closing (after_first is_opening address)

-- whether an address begins with brackets that hold a host with a named scope, and something stands behind them
abbrev pub has_bracketed_scope : List ℕ → Bool
has_bracketed_scope address =
    (length (before_first is_opening address) == 0) && has_named_scope (bracketed_host address)
    && not (length (bracketed_port address) == 0)

-- an address with this host, if it has none; without its brackets, if these hold a named scope; and else as it is
abbrev pub with_host : List ℕ → List ℕ → List ℕ
with_host host address =
    if has_no_host address then host ++ address else
    if has_bracketed_scope address then bracketed_host address ++ bracketed_port address else address
