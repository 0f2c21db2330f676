-- Names of types and attributes by which a toxic's short form can be read back.
use Rattle.std.proofs.Common.{◌≡◌, ℕ, ◌^◌, ◌<◌, ◌&&◌, Bool, true, not, List, [], ◌∷◌, Some, codes, map}
use Rattle.std.specs.Prelude.{◌||◌}
use Rattle.std.specs.List.{AllByRecursion, list_all, list_any, zip}
use Rattle.std.specs.Str.{bytes_eq}
use Rattle.tox_defs.specs.declared.toxic.Toxic.{Toxic}
use Rattle.tox_defs.specs.Toxic.{attributes_of, name_of, toxic_named, values_of, with_values}
use Rattle.tox_defs.specs.short.Pairs.{is_word}
use Rattle.tox_defs.specs.short.Short.{is_known}

-- an attribute's name and value
abbrev pub Named : Type 0
Named = List ℕ × ℕ

-- the attributes of a toxic
abbrev pub entries_of : Toxic → List Named
entries_of toxic = zip (attributes_of toxic) (values_of toxic)

-- whether an attribute has this name
abbrev pub has_name : List ℕ → List Named → Bool
has_name name entries = list_any (λ entry. bytes_eq name entry.0 || bytes_eq entry.0 name) entries

-- whether no two have the same name
abbrev pub are_apart : List Named → Bool
are_apart [] = true
are_apart (entry ∷ entries) = not (has_name entry.0 entries) && are_apart entries

-- The type's name is a word, and finds the toxic with zeros. The attributes' names are words that it knows, all
-- different, and none is `toxicity`. With the attributes' values it becomes the toxic.
pub record IsSpelled (toxic : Toxic) : Type 0 where
  pub word : is_word (name_of toxic) ≡ true
  pub named : toxic_named (name_of toxic) ≡ Some (with_values toxic [])
  pub words : list_all (λ entry. is_word entry.0) (entries_of toxic) ≡ true
  pub known : list_all (λ entry. is_known (with_values toxic []) entry.0) (entries_of toxic) ≡ true
  pub apart : are_apart ((codes "toxicity", 0) ∷ entries_of toxic) ≡ true
  pub keys : attributes_of (with_values toxic []) ≡ map (λ entry. entry.0) (entries_of toxic)
  pub made : with_values (with_values toxic []) (map (λ entry. entry.1) (entries_of toxic)) ≡ toxic

-- the values have few digits
abbrev pub AreShort : List Named → Type 0
AreShort entries = AllByRecursion (λ entry. entry.1 < 10 ^ 18) entries
