-- What it says of a toxic that it is in range.
use Rattle.std.proofs.Common.{◌≡◌, ℕ, ◌≤◌, Bool, true, false, Some, None, refl, if◌then◌else◌}
use Rattle.std.specs.Prelude.{nat_le}
use Rattle.std.proofs.lemmas.Bool.{and_parts, leb-true}
use Rattle.tox_defs.specs.declared.attributes.limits.Limits.{Limits}
use Rattle.tox_defs.specs.declared.fault.ToxicFault.TheVariants.{OutOfRange, Variation}
use Rattle.tox_defs.specs.toxics.Ranges.{is_in}

-- what it says of the two tests that there is no fault
pub both_tests : (within varied_much : Bool) → (if within then (if varied_much then Some Variation else None) else Some OutOfRange) ≡ None
    → (within ≡ true) × (varied_much ≡ false)
both_tests false varied_much none = absurd (cc)
both_tests true true none = absurd (cc)
both_tests true false none = (refl, refl)

-- a value in a range lies between its bounds
pub in_bounds : (limits : Limits) (value : ℕ) → is_in limits value ≡ true → (limits.least ≤ value) × (value ≤ limits.most)
in_bounds limits value inside =
    let parts = and_parts (nat_le limits.least value) (nat_le value limits.most) inside in
    (leb-true limits.least value parts.0, leb-true value limits.most parts.1)
