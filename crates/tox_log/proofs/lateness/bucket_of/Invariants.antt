-- The high bits are halved, and the power stays small.
use Rattle.std.proofs.Common.{◌≤◌}
use Rattle.tox_log.proofs.lateness.bucket_of.Given as goal

abbrev pub invariant-loop-high : goal.invariant-loop-high
invariant-loop-high l = l.power ≤ 57

abbrev pub decreases-loop-high : goal.decreases-loop-high
decreases-loop-high l = l.high
