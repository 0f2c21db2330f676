-- It goes down the list of cursors.
use Rattle.std.proofs.Common.{length}
use Rattle.tox_plan.proofs.pulling.+count_read.Given as goal

abbrev pub decreases-count_read : goal.decreases-count_read
decreases-count_read l = length l.cursors.now
