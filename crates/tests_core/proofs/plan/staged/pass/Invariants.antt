-- Each item that leaves a stage is one fewer that is left.
use Rattle.std.proofs.Common.{length}
use Rattle.tests_core.proofs.plan.staged.pass.Given as goal

abbrev pub decreases-loop-item : goal.decreases-loop-item
decreases-loop-item g l = length l.stage.pending
