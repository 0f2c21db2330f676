-- What is reported of a populate file: what was noted of it, the addresses of its proxies, and where two of them listen at one.
use Rattle.std.specs.Prelude.{ℕ, ◌==◌, ◌&&◌, ◌||◌, not, Bool, List, [], ◌∷◌, ◌++◌, codes, decimal, flat_map, Option, None, Some}
use Rattle.std.specs.List.{after_last, find, list_all, list_any}
use Rattle.std.specs.Str.{bytes_eq}
use Rattle.tox_time.specs.Text.{is_colon}
use Rattle.tox_config.specs.Proxy.{Proxy}
use Rattle.tox_config.specs.Remarks.{Noted, Repeated, Unread}
use Rattle.tox_text.specs.Names.{visible_name}
use Rattle.tox_text.specs.Nearest.{nearest}
use Rattle.tox_check.specs.ProxyLines.{line_if, proxies_lines}
use Rattle.tox_check.specs.Sentences.{near_text}

-- whether Toxiproxy prints a member of this name, which isn't read
abbrev pub is_toxiproxys : List ℕ → Bool
is_toxiproxys key = bytes_eq key (codes "toxics") || bytes_eq key (codes "Logger")

-- the names of the members that are read
abbrev pub read_keys : List (List ℕ)
read_keys = codes "name" ∷ codes "listen" ∷ codes "upstream" ∷ codes "enabled" ∷ []

-- a member isn't read
abbrev pub unread_line : Unread → List ℕ
unread_line unread =
    (codes "proxy " ++ (visible_name unread.proxy ++ (codes " has an unknown member: " ++ visible_name unread.key)))
    ++ near_text (nearest unread.key read_keys)

-- a member that isn't read, and that Toxiproxy doesn't print
abbrev pub unread_lines : Unread → List (List ℕ)
unread_lines unread = line_if (not (is_toxiproxys unread.key)) (unread_line unread)

-- members that Toxiproxy prints aren't read
abbrev pub toxiproxys_line : List ℕ
toxiproxys_line = codes "the file has toxics as Toxiproxy prints them, which aren't read: examples/from-toxiproxy makes a script of them\n"

-- members that Toxiproxy prints aren't read, if there are any
abbrev pub toxiproxys_lines : List Unread → List (List ℕ)
toxiproxys_lines members = line_if (list_any (λ unread. is_toxiproxys unread.key) members) toxiproxys_line

-- more than one object has a name
abbrev pub repeated_lines : Repeated → List (List ℕ)
repeated_lines repeated =
    (codes "proxy " ++ (visible_name repeated.name ++ (codes " is defined " ++ (decimal repeated.count
    ++ codes " times: the last one counts\n")))) ∷ []

-- what was noted
abbrev pub noted_lines : Noted → List (List ℕ)
noted_lines noted =
    flat_map unread_lines noted.unread ++ (toxiproxys_lines noted.unread ++ flat_map repeated_lines noted.repeated)

-- whether the port of an address is 0, for which the system chooses one
abbrev pub has_any_port : List ℕ → Bool
has_any_port address = list_all (λ byte. byte == 48) (after_last is_colon address)

-- whether two proxies, both enabled, listen at one address
abbrev pub listens_there : Proxy → Proxy → Bool
listens_there proxy other =
    proxy.enabled && (other.enabled && (bytes_eq other.listen proxy.listen && not (has_any_port proxy.listen)))

-- where a proxy listens another one does too, if there is one
abbrev pub shared_lines_of : Proxy → Option Proxy → List (List ℕ)
shared_lines_of proxy None = []
shared_lines_of proxy (Some other) =
    (codes "proxy " ++ (visible_name other.name ++ (codes " listens where proxy " ++ (visible_name proxy.name
    ++ (codes " does: " ++ (visible_name proxy.listen ++ codes "\n")))))) ∷ []

-- of each proxy the first behind it that listens at its address
abbrev pub shared_lines : List Proxy → List (List ℕ)
shared_lines [] = []
shared_lines (proxy ∷ proxies) = shared_lines_of proxy (find (listens_there proxy) proxies) ++ shared_lines proxies

-- what is reported of a file
abbrev pub file_lines : Noted → List Proxy → List (List ℕ)
file_lines noted proxies = noted_lines noted ++ (proxies_lines proxies ++ shared_lines proxies)
