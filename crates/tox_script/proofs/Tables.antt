-- What stands in the tables and arrays that values hold.
use Rattle.std.proofs.Common.{◌≡◌, ◌&&◌, List, [], ◌∷◌, map, refl, ap, String, Global, string_bytes}
use Rattle.std.specs.List.{list_all}
use Rattle.std.specs.Map.{keys_of}
use Rattle.toml.specs.View.{items_view, members_view, view}
use Rattle.toml.specs.declared.value.Value.{Value}
use Rattle.tox_script.specs.fields.Fields.{all_tables, is_table, member_keys}

-- each value is a table where each of the views is
pub all_tables-view : (values : List Value) → all_tables (items_view values) ≡ list_all (λ value. is_table (view value)) values
all_tables-view [] = refl
all_tables-view (value ∷ values) = ap (λ others. is_table (view value) && others) (all_tables-view values)

-- the keys of a map's entries
pub member_keys-view : (entries : List (String Global × Value)) → member_keys (members_view entries) ≡ map string_bytes (keys_of entries)
member_keys-view [] = refl
member_keys-view (entry ∷ entries) = ap (λ others. string_bytes entry.0 ∷ others) (member_keys-view entries)
