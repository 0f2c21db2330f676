-- What of a populate file is taken, and may not be meant: members that aren't read, and names that stand more than once.
use Rattle.std.specs.Prelude.{◌≡◌, ℕ, ◌+◌, ◌||◌, Bool, true, false, List, [], ◌∷◌, ◌++◌, codes, nat_lt, Option, None, Some, option_and_then, unwrap_or, if◌then◌else◌}
use Rattle.std.specs.Str.{bytes_eq}
use Rattle.serde_json.specs.Data.{Data, Items, no_items, item, Members, no_members, member}
use Rattle.serde_json.specs.Find.{as_array, as_object}
use Rattle.tox_config.specs.Populate.{json_of}
use Rattle.tox_config.specs.Proxy.{Proxy, proxy_name}

-- whether a member of this name is read
abbrev pub is_read : List ℕ → Bool
is_read key =
    bytes_eq key (codes "name") || bytes_eq key (codes "listen") || bytes_eq key (codes "upstream")
    || bytes_eq key (codes "enabled")

-- a member that isn't read, and the name of its proxy
pub record Unread : Type 0 where
  pub proxy : List ℕ
  pub key : List ℕ

-- a member, unless it is read
abbrev pub unread_if : Bool → List ℕ → List ℕ → List Unread
unread_if true proxy key = []
unread_if false proxy key = record { proxy = proxy; key = key } ∷ []

-- those of some members that aren't read
abbrev pub unread_among : List ℕ → Members → List Unread
unread_among proxy no_members = []
unread_among proxy (member key d ms) = unread_if (is_read key) proxy key ++ unread_among proxy ms

-- those of an object
abbrev pub unread_of : List ℕ → Option Members → List Unread
unread_of proxy None = []
unread_of proxy (Some members) = unread_among proxy members

-- the name of an object's proxy, or none
abbrev pub name_or_none : Data → List ℕ
name_or_none d = unwrap_or (proxy_name d) []

-- those of some objects, in their order
abbrev pub unread_in : Items → List Unread
unread_in no_items = []
unread_in (item d ds) = unread_of (name_or_none d) (as_object d) ++ unread_in ds

-- how many of some objects have a proxy of this name
abbrev pub count_named : List ℕ → Items → ℕ
count_named name no_items = 0
count_named name (item d ds) = (if bytes_eq (name_or_none d) name then 1 else 0) + count_named name ds

-- a name, and how many objects have it
pub record Repeated : Type 0 where
  pub name : List ℕ
  pub count : ℕ

-- a name that more than one object has
abbrev pub repeated_if : List ℕ → ℕ → List Repeated
repeated_if name count = if nat_lt 1 count then record { name = name; count = count } ∷ [] else []

-- the names of proxies that more than one of these objects has
abbrev pub repeated_in : Items → List Proxy → List Repeated
repeated_in values [] = []
repeated_in values (p ∷ proxies) = repeated_if p.name (count_named p.name values) ++ repeated_in values proxies

-- the objects of a populate file
abbrev pub objects_of : List ℕ → Option Items
objects_of bytes = option_and_then as_array (json_of bytes)

-- the members that aren't read, and the names that stand more than once
pub record Noted : Type 0 where
  pub unread : List Unread
  pub repeated : List Repeated

-- what is noted of no file
abbrev pub none_noted : Noted
none_noted = record { unread = []; repeated = [] }

-- this is noted of a populate file that defines these proxies
pub record IsNoted (bytes : List ℕ) (proxies : List Proxy) (noted : Noted) : Type 0 where
  pub values : Items
  pub objects : objects_of bytes ≡ Some values
  pub unread : noted.unread ≡ unread_in values
  pub repeated : noted.repeated ≡ repeated_in values proxies
