-- The attributes of a toxic, and the toxic that they make.
use Rattle.std.specs.Prelude.{ℕ, Bool, true, List, [], ◌∷◌, map, Option, Some, None, option_and_then, option_map, Result, Err, ok_or, if◌then◌else◌}
use Rattle.std.specs.Option.{option_map_or}
use Rattle.toml.specs.Data.{Data, get}
use Rattle.tox_defs.specs.Toxic.{attributes_of, checked, with_values}
use Rattle.tox_defs.specs.declared.toxic.Toxic.{Toxic}
use Rattle.tox_defs.specs.declared.fault.ToxicFault.{ToxicFault}
use Rattle.tox_defs.specs.declared.fault.ToxicFault.TheVariants.{OutOfRange, UnknownAttribute}
use Rattle.tox_script.specs.fields.Fields.{has_only, whole}
use Rattle.tox_time.specs.Steps.{◌>>=◌}

-- whether a toxic has all of these attributes
abbrev pub are_known : Toxic → Option Data → Bool
are_known toxic attributes = option_map_or (has_only (attributes_of toxic)) attributes true

-- the whole number of an attribute, where an absent one is 0
abbrev pub whole_or_zero : Option Data → Option ℕ
whole_or_zero None = Some 0
whole_or_zero (Some d) = whole d

-- the whole number of one of these attributes
abbrev pub value_in : Option Data → List ℕ → Option ℕ
value_in attributes key = whole_or_zero (option_and_then (get key) attributes)

-- the values of a list, where each is there
abbrev pub all_some : {A : Type 0} → List (Option A) → Option (List A)
all_some [] = Some []
all_some (x ∷ xs) = option_and_then (λ y. option_map (λ ys. y ∷ ys) (all_some xs)) x

-- the values of a toxic's attributes in order, where each is a whole number
abbrev pub values_in : Toxic → Option Data → Option (List ℕ)
values_in toxic attributes = all_some (map (value_in attributes) (attributes_of toxic))

-- a toxic with these attributes in place of its own, or why there is none
abbrev pub toxic_with : Toxic → Option Data → Result Toxic ToxicFault
toxic_with toxic attributes =
    if are_known toxic attributes
    then ok_or (values_in toxic attributes) OutOfRange
    >>= (λ values. checked (with_values toxic values))
    else Err UnknownAttribute
