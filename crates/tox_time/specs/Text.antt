-- Texts: how long they are, and decimal numbers in them.
use Rattle.std.specs.Prelude.{ℕ, ◌&&◌, ◌==◌, Bool, List, length, Option, Some, None, nat_lt, nat_le, if◌then◌else◌}
use Rattle.std.specs.Char.{is_ascii_digit}
use Rattle.std.specs.List.{list_all}
use Rattle.std.specs.Str.Parse.{digits_value}

-- a value, where it passes a test
abbrev pub passing : {A : Type 0} → (A → Bool) → A → Option A
passing test x = if test x then Some x else None

-- whether a text has 1 to so many bytes
abbrev pub is_sized : ℕ → List ℕ → Bool
is_sized most text = nat_lt 0 (length text) && nat_le (length text) most

-- whether a byte is a colon
abbrev pub is_colon : ℕ → Bool
is_colon byte = byte == 58

-- whether a text is 1 to so many decimal digits
abbrev pub is_decimal : ℕ → List ℕ → Bool
is_decimal digits text = is_sized digits text && list_all is_ascii_digit text

-- the number of 1 to so many decimal digits, where it is at most the greatest
abbrev pub decimal_value : ℕ → ℕ → List ℕ → Option ℕ
decimal_value digits greatest text =
    if is_decimal digits text && nat_le (digits_value 10 text) greatest
    then Some (digits_value 10 text)
    else None
