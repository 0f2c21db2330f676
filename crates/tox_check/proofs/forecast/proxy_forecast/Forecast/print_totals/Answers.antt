-- One rule behind the other.
use Rattle.std.proofs.Common.{◌≤◌, ◌<◌, [], arith, length, get_or, Some}
use Rattle.tox_script.specs.index.Numbered.{chains_numbered, order_numbered}
use Rattle.tox_check.specs.forecast.Counted.{numbers_from}
use Rattle.tox_check.specs.forecast.Tally.{totals_in}
use Rattle.tox_check.specs.declared.forecast.tally.Tally.{Tally}
use Rattle.tox_check.specs.forecast.Totals.{rule_totals, totals_of}
use Rattle.tox_check.proofs.forecast.NumbersFrom.{IsAt-numbers_from_0, length-numbers_from}
use Rattle.tox_check.proofs.forecast.TotalParts.{rule_totals-same}
use Rattle.tox_text.proofs.Printings.{Prints-all, Prints-more, Prints-stopped}
use Rattle.tox_check.proofs.forecast.proxy_forecast.Forecast.print_totals.Goals as goal

pub loop-rule-preserved : goal.loop-rule-preserved
loop-rule-preserved g c =
    let me = c.args.self.now in
    let k = c.loop-rule.rule in
    let below : k < length me.script.now.rules = omega (arith, c.loop-rule-test.true, c.requires.one_each) in
    let first : Tally = record { met = 0; upstream = []; downstream = [] } in
    let same = rule_totals-same me.question.now.json me.proxy.now k (totals_in (get_or c.args.tallies.now k first)) _ c.rule_chains-chains.result.now _
    c.order.result.now _ (c.requires.tallied k first c.loop-rule-test.true) c.rule_chains-chains.ensures c.order.ensures in
    Prints-more (λ rule. rule_totals me.question.now.json me.proxy.now rule
    (totals_of me.proxy.now me.script.now me.question.now.seed rule (numbers_from 1 me.question.now.links)) (chains_numbered (Some rule) me.script.now)
    (order_numbered rule me.script.now))
    (IsAt-numbers_from_0 (length me.script.now.rules) k below) c.loop-rule.invariant (rw same at c.in_ok-print_rule.ensures)

pub returns-in_err-print_rule : goal.returns-in_err-print_rule
returns-in_err-print_rule g c =
    let me = c.args.self.now in
    let k = c.loop-rule.rule in
    let below : k < length me.script.now.rules = omega (arith, c.loop-rule-test.true, c.requires.one_each) in
    let first : Tally = record { met = 0; upstream = []; downstream = [] } in
    let same = rule_totals-same me.question.now.json me.proxy.now k (totals_in (get_or c.args.tallies.now k first)) _ c.rule_chains-chains.result.now _
    c.order.result.now _ (c.requires.tallied k first c.loop-rule-test.true) c.rule_chains-chains.ensures c.order.ensures in
    Prints-stopped (λ rule. rule_totals me.question.now.json me.proxy.now rule
    (totals_of me.proxy.now me.script.now me.question.now.seed rule (numbers_from 1 me.question.now.links)) (chains_numbered (Some rule) me.script.now)
    (order_numbered rule me.script.now))
    (IsAt-numbers_from_0 (length me.script.now.rules) k below) c.from_residual.ensures.1 c.loop-rule.invariant (rw same at c.in_err-print_rule.ensures)

pub returns : goal.returns
returns g c =
    let me = c.args.self.now in
    let past : length (numbers_from 0 (length me.script.now.rules)) ≤ c.loop-rule.rule =
    omega (arith, length-numbers_from 0 (length me.script.now.rules), c.loop-rule-test.false, c.requires.one_each) in
    Prints-all (λ rule. rule_totals me.question.now.json me.proxy.now rule
    (totals_of me.proxy.now me.script.now me.question.now.seed rule (numbers_from 1 me.question.now.links)) (chains_numbered (Some rule) me.script.now)
    (order_numbered rule me.script.now)) _ _ past c.loop-rule.invariant
