-- The ending goes down the list of cursors.
use Rattle.std.proofs.Common.{length}
use Rattle.tox_plan.proofs.cursor_endings.+ending_of_read.Given as goal

abbrev pub decreases-ending_of_read : goal.decreases-ending_of_read
decreases-ending_of_read l = length l.cursors.now
