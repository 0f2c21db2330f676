-- Each cut takes the runner on within the piece, and is drawn.
use Rattle.std.proofs.Common.{◌≡◌, ◌-◌}
use Rattle.tox_draw.specs.Planning.{DrawsCuts}
use Rattle.tox_draw.proofs.strands.take_cuts.Given as goal

abbrev pub invariant-loop-slice : goal.invariant-loop-slice
invariant-loop-slice l = record {
  piece : l.runner.piece ≡ l.fn.runner.piece;
  latest : l.runner.latest ≡ l.fn.runner.latest;
  due : DrawsCuts l.frame l.fn.planned l.fn.runner l.planned l.runner;
}

abbrev pub decreases-loop-slice : goal.decreases-loop-slice
decreases-loop-slice l = l.runner.piece.span.stop - l.runner.position
