-- The values of a list of attributes, where each is there.
use Rattle.std.proofs.Common.{◌≡◌, ℕ, zero, suc, ◌<◌, ◌≤◌, List, [], ◌∷◌, Option, Some, None, length, map, get_or, take, option_map, refl, ap, sym, ◌∙◌}
use Rattle.std.proofs.Common.{arith}
use Rattle.std.proofs.lemmas.List.{get_or-map, length-map, take_all}
use Rattle.toml.specs.Data.{Data}
use Rattle.tox_defs.specs.declared.toxic.Toxic.{Toxic}
use Rattle.tox_defs.specs.Toxic.{attributes_of}
use Rattle.tox_defs.specs.declared.attributes.attribute.Attribute.{Attribute}
use Rattle.tox_script.specs.fields.Attributes.{all_some, value_in, values_in}

-- the values, where each is there
all_some-Some : (values : List ℕ) → all_some (map Some values) ≡ Some values
all_some-Some [] = refl
all_some-Some (value ∷ values) = ap (option_map (λ others. value ∷ others)) (all_some-Some values)

-- none, where one isn't there
all_some-None : (xs : List (Option ℕ)) (k : ℕ) (d : Option ℕ) → k < length xs → get_or xs k d ≡ None → all_some xs ≡ None
all_some-None [] k d here none = absurd (omega arith)
all_some-None (None ∷ xs) k d here none = refl
all_some-None (Some value ∷ xs) zero d here none = cc
all_some-None (Some value ∷ xs) (suc k) d here none =
    ap (option_map (λ others. value ∷ others)) (all_some-None xs k d (omega arith) none)

-- the value of an attribute that the code holds
abbrev pub value_by : Option Data → Attribute → Option ℕ
value_by table attribute = value_in table attribute.name.now

map_now : (table : Option Data) (keys : List Attribute) → map (value_in table) (map (λ (key : Attribute). key.name.now) keys) ≡ map (value_by table) keys
map_now table [] = refl
map_now table (key ∷ keys) = ap (λ values. value_in table key.name.now ∷ values) (map_now table keys)

module _ (toxic : Toxic) (table : Option Data) (keys : List Attribute) (names : map (λ (key : Attribute). key.name.now) keys ≡ attributes_of toxic) where
  values_in-keys : values_in toxic table ≡ all_some (map (value_by table) keys)
  values_in-keys = ap (λ names. all_some (map (value_in table) names)) (sym names) ∙ ap all_some (map_now table keys)

  -- one attribute isn't there
  pub values_in-none : (k : ℕ) (key : Attribute) → k < length keys → value_by table (get_or keys k key) ≡ None → values_in toxic table ≡ None
  values_in-none k key here none =
      values_in-keys
      ∙ all_some-None (map (value_by table) keys) k (value_by table key) (omega (arith, length-map keys (value_by table)))
      (get_or-map (value_by table) keys k key (value_by table key) here ∙ none)

  -- all are there
  pub values_in-all : (k : ℕ) (values : List ℕ) → length keys ≤ k → map (value_by table) (take k keys) ≡ map Some values → values_in toxic table ≡ Some values
  values_in-all k values past so_far =
      values_in-keys ∙ ap (λ some. all_some (map (value_by table) some)) (sym (take_all k keys past)) ∙ ap all_some so_far ∙ all_some-Some values
