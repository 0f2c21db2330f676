-- An idle runner brings no chunk by itself.
use Rattle.std.proofs.Common.{◌≡◌, true, subst, [], ◌∷◌}
use Rattle.tox_time.specs.declared.streams.item.Item.TheVariants.{Quiet}
use Rattle.tox_plan.specs.RunnerInside.{runner_view}
use Rattle.tox_plan.specs.RunnerView.{RunnerView, HasNoChunk, to_come}
use Rattle.tox_plan.proofs.RunnerOutput.{read-no_chunk, idle-unfound}
use Rattle.tox_plan.proofs.runner.Runner.is_idle.Goals as goal

pub returns-clause-drained : goal.returns-clause-drained
returns-clause-drained c =
    let P : RunnerView → Type 0 = λ runner. runner.idle ≡ true → HasNoChunk (to_come runner (Quiet ∷ [])) in
    subst P c.self.view_is (λ idle. read-no_chunk (runner_view c.self.inside) c.self.invariant (c.self.invariant.idle idle)
    (idle-unfound (runner_view c.self.inside) c.self.invariant idle))
