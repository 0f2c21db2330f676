-- Past the plan's deadline nothing changes.
use Rattle.std.proofs.Common.{◌∙◌}
use Rattle.tox_plan.proofs.runner.Runner.quiet.Goals as goal

pub returns-clause-deadline : goal.returns-clause-deadline
returns-clause-deadline c = λ d position since items is from stream. c.end_with.ensures.deadline d position since items is from stream ∙ c.end_with.ensures.last
