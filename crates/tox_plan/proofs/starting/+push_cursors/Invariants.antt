-- The cursors go down the list of operations.
use Rattle.std.proofs.Common.{length}
use Rattle.tox_plan.proofs.starting.+push_cursors.Given as goal

abbrev pub decreases-push_cursors : goal.decreases-push_cursors
decreases-push_cursors l = length l.ops.now
