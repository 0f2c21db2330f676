-- The slice is the cuts that were given so far, all at its instant.
use Rattle.std.proofs.Common.{◌≡◌, ◌+◌, ◌-◌, ◌*◌, ◌≤◌, length, false}
use Rattle.tox_plan.specs.Cuts.{IsCut, KeepsOffers}
use Rattle.tox_plan.proofs.runner.Runner.next_cut.Given as goal

abbrev pub invariant-loop-stop : goal.invariant-loop-stop
invariant-loop-stop l = record {
  cut : IsCut l.fn.self l.self l.slice;
  begins : l.slice.span.start ≡ l.fn.self.position;
  stands : l.self.position ≡ l.slice.span.stop;
  busy : l.self.idle ≡ false;
  kept : KeepsOffers l.fn.self l.self;
  rounds : l.self.turns + length l.fn.self.cursors * l.fn.self.cuts ≤ l.fn.self.turns + length l.fn.self.cursors * l.self.cuts;
}

abbrev pub decreases-loop-stop : goal.decreases-loop-stop
decreases-loop-stop l = l.self.piece.span.stop - l.self.position
