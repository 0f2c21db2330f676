-- The name of a toxic's type, its attributes, and why a toxic is refused.
use Rattle.std.specs.Prelude.{◌≡◌, ℕ, Bool, false, List, Option, Some, None, Result, Ok, Err, if◌then◌else◌}
use Rattle.std.specs.List.{find}
use Rattle.std.specs.Str.{bytes_eq}
use Rattle.tox_defs.specs.declared.attributes.limits.Limits.{Limits}
use Rattle.tox_defs.specs.declared.toxic.Toxic.{Toxic}
use Rattle.tox_defs.specs.declared.toxic.Toxic.TheVariants.{Slicer}
use Rattle.tox_defs.specs.declared.fault.ToxicFault.{ToxicFault}
use Rattle.tox_defs.specs.declared.fault.ToxicFault.TheVariants.{OutOfRange, Variation}
use Rattle.tox_defs.specs.toxics.Ranges.{are_in}
use Rattle.tox_defs.specs.toxics.{each_type, meaning_of}
use Rattle.tox_defs.specs.toxics.Slicer.{is_slicer_varied_too_much}

-- the name of a toxic's type
abbrev pub name_of : Toxic → List ℕ
name_of toxic = (meaning_of toxic).description.name

-- the names of its attributes, in order
abbrev pub attributes_of : Toxic → List (List ℕ)
attributes_of toxic = (meaning_of toxic).description.attributes

-- their ranges
abbrev pub limits_of : Toxic → List Limits
limits_of toxic = (meaning_of toxic).description.limits

-- their values
abbrev pub values_of : Toxic → List ℕ
values_of toxic = (meaning_of toxic).description.values

-- the toxic of a type's name, with zeros
abbrev pub toxic_named : List ℕ → Option Toxic
toxic_named name = find (λ toxic. bytes_eq (name_of toxic) name) each_type

-- the toxic of the same type with these values of its attributes, in order
abbrev pub with_values : Toxic → List ℕ → Toxic
with_values toxic values = (meaning_of toxic).with_values values

-- whether each attribute is in its range, but for a size's variation
abbrev pub is_within : Toxic → Bool
is_within toxic = are_in (limits_of toxic) (values_of toxic)

-- whether sizes vary by their average or more
abbrev pub is_varied_too_much : Toxic → Bool
is_varied_too_much (Slicer average_size size_variation delay until from) =
    is_slicer_varied_too_much average_size size_variation
is_varied_too_much toxic = false

-- why a toxic is refused
abbrev pub toxic_fault : Toxic → Option ToxicFault
toxic_fault toxic =
    if is_within toxic then (if is_varied_too_much toxic then Some Variation else None)
    else Some OutOfRange

-- the attributes are in their ranges
abbrev pub IsInRange : Toxic → Type 0
IsInRange toxic = toxic_fault toxic ≡ None

-- a toxic, unless it has a fault
abbrev pub unless : Option ToxicFault → Toxic → Result Toxic ToxicFault
unless (Some fault) toxic = Err fault
unless None toxic = Ok toxic

-- a toxic, unless it is refused
abbrev pub checked : Toxic → Result Toxic ToxicFault
checked toxic = unless (toxic_fault toxic) toxic
