-- The ending is known exactly where the source's end was reported, or some cursor's ending is known.
-- Otherwise the link hasn't ended before its deadline.
use Rattle.std.proofs.Common.{sym, ◌∙◌}
use Rattle.tox_plan.specs.RunnerInside.{runner_view}
use Rattle.tox_plan.proofs.KnownEndings.{ended_exactly}
use Rattle.tox_plan.proofs.Unended.{unended-runner}
use Rattle.tox_plan.proofs.runner.Runner.ending.Goals as goal

pub returns-then-is_idle-clause-known : goal.returns-then-is_idle-clause-known
returns-then-is_idle-clause-known c = rw (c.ending.ensures, ← c.self.view_is)
    (ended_exactly (runner_view c.self.inside) c.self.invariant (sym c.is_idle.ensures ∙ c.if-is_idle.true))

pub returns-then-is_idle-clause-unended : goal.returns-then-is_idle-clause-unended
returns-then-is_idle-clause-unended c =
    rw (← c.self.view_is) (λ none idle. unended-runner (runner_view c.self.inside) c.self.invariant idle (sym c.ending.ensures ∙ none))
