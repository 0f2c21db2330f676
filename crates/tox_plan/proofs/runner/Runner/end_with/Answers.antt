-- Past the plan's deadline nothing changes.
use Rattle.std.proofs.Common.{ap, ◌∙◌}
use Rattle.tox_plan.specs.RunnerInside.{runner_view}
use Rattle.tox_plan.proofs.Deadlines.{past-deadline}
use Rattle.tox_plan.proofs.runner.Runner.end_with.Goals as goal

pub returns-clause-deadline : goal.returns-clause-deadline
returns-clause-deadline c = rw (← c.self.view_is) (past-deadline (runner_view c.self.inside) c.self.invariant
    (ap (λ runner. runner.idle) c.self.view_is ∙ c.requires))
