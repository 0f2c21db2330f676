-- Nothing is counted of no connection.
use Rattle.std.proofs.Common.{◌∙◌}
use Rattle.tox_check.proofs.forecast.TallySteps.{IsTallied-none}
use Rattle.tox_check.proofs.forecast.proxy_forecast.print_forecast.Goals as goal

pub write-requires-clause-tallied : goal.write-requires-clause-tallied
write-requires-clause-tallied g c =
    IsTallied-none c.args.proxy.now c.args.script.now c.args.question.now.seed c.rule_count.result c.deref_mut.result.now
    (c.deref_mut.ensures.value ∙ c.in-Ok-tallies_of.ensures)
