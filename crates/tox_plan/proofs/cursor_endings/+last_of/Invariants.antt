-- The ending goes down the list of cursors.
use Rattle.std.proofs.Common.{length}
use Rattle.tox_plan.proofs.cursor_endings.+last_of.Given as goal

abbrev pub decreases-last_of : goal.decreases-last_of
decreases-last_of l = length l.cursors.now
