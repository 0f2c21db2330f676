-- Lanes have one of two numbers.
use Rattle.std.proofs.Common.{◌≡◌, ℕ, ◌≤◌, arith, sym, ◌∙◌}
use Rattle.std.specs.Fmt.{decimal}
use Rattle.tox_words.specs.declared.lanes.Lanes.{Lanes}
use Rattle.tox_words.specs.declared.lanes.Lanes.TheVariants.{Sixteen, ThirtyTwo}
use Rattle.tox_words.specs.Draw.{lane_count}
use Rattle.std.proofs.lemmas.Fmt.{decimal_injective}
use Rattle.tox_log.proofs.heading.lanes_of.Goals as goal

other-count : (count : ℕ) (lanes : Lanes) → count ≤ 32 → (count ≡ 16 → ⊥) → (count ≡ 32 → ⊥) → decimal count ≡ decimal (lane_count lanes) → ⊥
other-count count Sixteen fits no_sixteen no_other same = no_sixteen (decimal_injective count 16 (omega (arith, fits)) (omega arith) same)
other-count count ThirtyTwo fits no_sixteen no_other same = no_other (decimal_injective count 32 (omega (arith, fits)) (omega arith) same)

pub returns : goal.returns
returns c = λ lanes same. other-count c.in_ok-count.count lanes c.in_ok-count.ensures.0 c.if-count-eq16.false c.if-count-eq32.false
    (sym c.in_ok-count.ensures.1 ∙ same)
