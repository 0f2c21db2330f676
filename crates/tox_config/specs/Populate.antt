-- What a populate file gives, over the value that `serde_json` reads of its bytes.
use Rattle.std.specs.Prelude.{ℕ, ◌+◌, Bool, not, List, [], ◌∷◌, filter, fold, map, slice_get, Option, Some, None, Result, Ok, Err, if◌then◌else◌}
use Rattle.std.specs.List.{position_or_len}
use Rattle.std.specs.Str.{bytes_eq, is_utf8}
use Rattle.serde_json.specs.Data.{Data, Items, no_items, item}
use Rattle.serde_json.specs.Find.{as_array}
use Rattle.serde_json.specs.Read.{read}
use Rattle.tox_config.specs.Proxy.{Proxy, proxy_of}
use Rattle.tox_config.specs.declared.fault.ConfigFault.{ConfigFault}
use Rattle.tox_config.specs.declared.fault.ConfigFault.TheVariants.{NotJson, NotArray, TooMany}

-- the proxies of the objects before the first fault, and that fault
pub record Front : Type 0 where
  pub proxies : List Proxy
  pub fault : Option ConfigFault

-- what the first value gives, and then what the others give
abbrev pub with_first : Result Proxy ConfigFault → Front → Front
with_first (Ok p) others = record others { proxies = p ∷ others.proxies }
with_first (Err fault) others = record { proxies = []; fault = Some fault }

-- what some values give, the first of which stands at a place
abbrev pub front_of : ℕ → Items → Front
front_of place no_items = record { proxies = []; fault = None }
front_of place (item d ds) = with_first (proxy_of place d) (front_of (place + 1) ds)

-- whether a proxy has a name
abbrev pub is_named : List ℕ → Proxy → Bool
is_named name p = bytes_eq p.name name

-- the last one named as the first, of a first proxy and others
abbrev pub last_named : Proxy → List Proxy → Proxy
last_named p others = fold (λ last q. if is_named p.name q then q else last) p others

-- one entry per name: the last proxy of the name, in the place of the first
abbrev pub entries_of : List Proxy → List Proxy
entries_of [] = []
entries_of (p ∷ others) =
    last_named p others ∷ filter (λ q. not (is_named p.name q)) (entries_of others)

-- the names of some proxies, each once
abbrev pub names_of : List Proxy → List (List ℕ)
names_of proxies = map (λ p. p.name) (entries_of proxies)

-- how many names a file may have
abbrev pub most_names : ℕ
most_names = 64

-- the entries, where no fault was met
abbrev pub unless_fault : Option ConfigFault → List Proxy → Result (List Proxy) ConfigFault
unless_fault None entries = Ok entries
unless_fault (Some fault) entries = Err fault

-- a name too many is refused where it first stands, which is before any other fault
abbrev pub unless_too_many : Option (List ℕ) → Front → Result (List Proxy) ConfigFault
unless_too_many None front = unless_fault front.fault (entries_of front.proxies)
unless_too_many (Some name) front = Err (TooMany (position_or_len (is_named name) front.proxies))

-- the entries of what some values give
abbrev pub populated : Front → Result (List Proxy) ConfigFault
populated front = unless_too_many (slice_get (names_of front.proxies) most_names) front

-- the entries of an array
abbrev pub populate_array : Option Items → Result (List Proxy) ConfigFault
populate_array None = Err NotArray
populate_array (Some values) = populated (front_of 0 values)

-- the value of bytes that are a JSON text in UTF-8
abbrev pub json_of : List ℕ → Option Data
json_of bytes = if is_utf8 bytes then read bytes else None

-- the entries of a value
abbrev pub populate_value : Option Data → Result (List Proxy) ConfigFault
populate_value None = Err NotJson
populate_value (Some d) = populate_array (as_array d)

-- the entries of a populate file, or its first fault
abbrev pub populate : List ℕ → Result (List Proxy) ConfigFault
populate bytes = populate_value (json_of bytes)
