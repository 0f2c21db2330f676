-- A found cut that is given is no longer to come.
use Rattle.std.proofs.Common.{ap, ◌∙◌}
use Rattle.tox_plan.specs.RunnerInside.{runner_view}
use Rattle.tox_plan.proofs.GivenCuts.{IsRunning-after_given, IsOneCut-after_given}
use Rattle.tox_plan.proofs.runner.Runner.give.Goals as goal

pub invariant_of-self : goal.invariant_of-self
invariant_of-self c =
    IsRunning-after_given (runner_view c.self.inside) c.args.cut.now c.self.invariant (ap (λ runner. runner.lookahead) c.self.view_is ∙ c.requires)

pub returns-clause-cut : goal.returns-clause-cut
returns-clause-cut c =
    rw (← c.self.view_is) (IsOneCut-after_given (runner_view c.self.inside) c.args.cut.now c.self.invariant
    (ap (λ runner. runner.lookahead) c.self.view_is ∙ c.requires))
