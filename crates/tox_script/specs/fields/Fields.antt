-- What stands in a script's tables, over the values that `toml` reads: texts, whole numbers, tables and keys.
use Rattle.std.specs.Prelude.{ℕ, ◌&&◌, Bool, true, ℤ, pos, negsuc, List, [], ◌∷◌, nat_le, Option, Some, None, is_some, option_and_then, option_map, unwrap_or}
use Rattle.std.specs.Prelude.{Result, Ok, Err, ok_or, if◌then◌else◌}
use Rattle.std.specs.List.{list_all, list_any}
use Rattle.std.specs.Str.{bytes_eq}
use Rattle.toml.specs.Data.{Data, table, Items, no_items, item, Members, no_members, member, as_array, as_integer, as_str, as_table}
use Rattle.tox_time.specs.Steps.{◌>>=◌}
use Rattle.tox_time.specs.Text.{is_sized, passing}
use Rattle.tox_script.specs.declared.fault.Field.{Field}
use Rattle.tox_script.specs.declared.fault.Field.TheVariants.{Unknown}

-- a field that must stand
abbrev pub needed : {A : Type 0} → Field → (Data → Option A) → Option Data → Result A Field
needed field read value = ok_or (option_and_then read value) field

-- a field that may be absent
abbrev pub optional : {A : Type 0} → Field → (Data → Option A) → Option Data
    → Result (Option A) Field
optional field read None = Ok None
optional field read (Some d) = ok_or (option_map Some (read d)) field

-- a text of 1 to so many bytes
abbrev pub sized_text : ℕ → Data → Option (List ℕ)
sized_text most d = option_and_then (passing (is_sized most)) (as_str d)

-- an integer, where it isn't negative
abbrev pub natural : ℤ → Option ℕ
natural (pos n) = Some n
natural (negsuc n) = None

-- a whole number from 0 on
abbrev pub whole : Data → Option ℕ
whole d = option_and_then natural (as_integer d)

-- whether a number is in a range
abbrev pub is_between : ℕ → ℕ → ℕ → Bool
is_between least most n = nat_le least n && nat_le n most

-- a whole number in a range
abbrev pub whole_between : ℕ → ℕ → Data → Option ℕ
whole_between least most d = option_and_then (passing (is_between least most)) (whole d)

-- whether a value is a table
abbrev pub is_table : Data → Bool
is_table d = is_some (as_table d)

-- whether each value is a table
abbrev pub all_tables : Items → Bool
all_tables no_items = true
all_tables (item d ds) = is_table d && all_tables ds

-- the values of an array, where each is a table
abbrev pub tables : Data → Option Items
tables d = option_and_then (passing all_tables) (as_array d)

-- the keys of members
abbrev pub member_keys : Members → List (List ℕ)
member_keys no_members = []
member_keys (member key d ms) = key ∷ member_keys ms

-- the keys of a table
abbrev pub keys_of : Data → List (List ℕ)
keys_of (table ms) = member_keys ms
keys_of _ = []

-- whether a text is one of these
abbrev pub is_among : List (List ℕ) → List ℕ → Bool
is_among texts text = list_any (λ other. bytes_eq other text) texts

-- whether a table has no keys but these
abbrev pub has_only : List (List ℕ) → Data → Bool
has_only keys d = list_all (is_among keys) (keys_of d)

-- what a table gives, unless it has another key than these
abbrev pub unless_unknown : {A : Type 0} → List (List ℕ) → Data → A → Result A Field
unless_unknown keys d x = if has_only keys d then Ok x else Err Unknown

-- the values of an array of tables, where an absent one has none
abbrev pub tables_of : Field → Option Data → Result Items Field
tables_of field value = do
  values ← optional field tables value
  Ok (unwrap_or values no_items)
