use Rattle.tox_stages.proofs.Working.{IsWorking}
use Rattle.tox_stages.proofs.worker.work.Given as goal

abbrev pub invariant-loop-nth : goal.invariant-loop-nth
invariant-loop-nth g l = IsWorking l.initial.consumer l.initial.producer l.initial.stage l.consumer l.producer l.stage l.nth
