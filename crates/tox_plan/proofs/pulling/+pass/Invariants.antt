-- It goes down the list of cursors.
use Rattle.std.proofs.Common.{length}
use Rattle.tox_plan.proofs.pulling.+pass.Given as goal

abbrev pub decreases-pass : goal.decreases-pass
decreases-pass l = length l.cursors.now
