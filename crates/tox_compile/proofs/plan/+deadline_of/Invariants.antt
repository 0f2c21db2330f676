-- The deadline goes down the list of operations.
use Rattle.std.proofs.Common.{length}
use Rattle.tox_compile.proofs.plan.+deadline_of.Given as goal

abbrev pub decreases-deadline_of : goal.decreases-deadline_of
decreases-deadline_of l = length l.ops.now
