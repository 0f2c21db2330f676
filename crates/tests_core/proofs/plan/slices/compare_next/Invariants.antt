-- The slices are still those of the offered piece.
use Rattle.std.proofs.Common.{◌≡◌}
use Rattle.tox_plan.specs.Slices.{CanLend}
use Rattle.tests_core.proofs.plan.slices.compare_next.Given as goal

abbrev pub invariant-loop-number : goal.invariant-loop-number
invariant-loop-number g l = CanLend l.slices × (l.slices.runner.piece ≡ l.initial.slices.runner.piece)
