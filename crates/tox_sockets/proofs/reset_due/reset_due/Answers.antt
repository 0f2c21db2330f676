-- Every stream under the operations has ended by the instant that they lead to, one after the other.
use Rattle.std.proofs.Common.{ℕ, Option, sym, subst}
use Rattle.tox_plan.specs.EndsBy.{EndsEachStream}
use Rattle.tox_plan.proofs.EndsBy.{EndsEachStream-fold}
use Rattle.tox_sockets.specs.ResetDue.{after_op}
use Rattle.tox_sockets.proofs.DueLemmas.{after_op-ends}
use Rattle.tox_sockets.proofs.reset_due.reset_due.Goals as goal

pub returns-clause-ended : goal.returns-clause-ended
returns-clause-ended c =
    let P : Option ℕ → Type 0 = λ due. EndsEachStream c.args.ops.now due in
    subst P (sym c.due_behind.ensures) (EndsEachStream-fold after_op after_op-ends c.args.ops.now)
