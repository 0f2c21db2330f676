-- Every run at rest delivered the chain's flow.
use Rattle.std.proofs.Common.{rules, IfOk}
use Rattle.std.proofs.lemmas.Result.{IfOk-weaker}
use Rattle.tox_time.specs.streams.Arrivals.{arrival_list}
use Rattle.tox_time.specs.streams.Table.{IsOutcomeOf}
use Rattle.tox_defs.specs.Flow.{chain_flow}
use Rattle.tox_plan.proofs.EveryRun.{outcome_of_every_rest}
use Rattle.tox_plan.proofs.delivery.deliver.Goals as goal

pub returns-clause-every_run : goal.returns-clause-every_run
returns-clause-every_run c =
    let flow : IfOk c.deliver_plan.result (λ outcome. IsOutcomeOf (chain_flow c.args.chain.now c.args.words.now (arrival_list c.args.arrivals.now)) outcome) =
    search rules in
    IfOk-weaker c.deliver_plan.result _ _ (outcome_of_every_rest c.args.chain.now c.args.words.now (arrival_list c.args.arrivals.now)) flow
