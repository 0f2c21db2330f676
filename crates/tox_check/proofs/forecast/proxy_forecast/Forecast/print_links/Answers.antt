-- One connection behind the other.
use Rattle.std.proofs.Common.{◌≡◌, ◌≤◌, ◌+◌, arith, length, ◌∙◌, add-one}
use Rattle.tox_script.specs.index.Numbered.{covering_number}
use Rattle.tox_time.specs.declared.streams.stream.Stream.TheVariants.{Upstream, Downstream}
use Rattle.tox_check.specs.forecast.Applied.{flags_for}
use Rattle.tox_check.specs.forecast.Counted.{numbers_from}
use Rattle.tox_check.specs.forecast.ForecastText.{link_text}
use Rattle.tox_check.proofs.forecast.LinkTexts.{chains_found, flags_found, link_text-found, met_fits}
use Rattle.tox_check.proofs.forecast.NumbersFrom.{IsAt-numbers_from, length-numbers_from}
use Rattle.tox_check.proofs.forecast.TallySteps.{HasRoom-tallied, IsTallied-next}
use Rattle.tox_text.proofs.Printings.{Prints-all, Prints-more, Prints-stopped}
use Rattle.tox_check.proofs.forecast.proxy_forecast.Forecast.print_links.Goals as goal

pub invariant_of-met : goal.invariant_of-met
invariant_of-met g c =
    let me = c.args.self.now in
    let conn = c.loop-before.before + 1 in
    let met : c.rule-rule.result ≡ covering_number me.proxy.now conn me.script.now = c.rule-rule.ensures ∙ me.indexed conn (omega arith) in
    record { numbered = met_fits me.proxy.now me.script.now conn c.rule-rule.result met me.numbered }

pub count_link-requires : goal.count_link-requires
count_link-requires g c =
    let me = c.args.self.now in
    HasRoom-tallied me.proxy.now me.script.now me.question.now.seed c.loop-before.before c.loop-before.tallies (omega arith) c.loop-before.invariant.tallied

pub loop-before-preserved : goal.loop-before-preserved
loop-before-preserved g c =
    let me = c.args.self.now in
    let turn = c.loop-before in
    let conn = turn.before + 1 in
    let flags = c.link_flags-flags.result in
    let met : c.rule-rule.result ≡ covering_number me.proxy.now conn me.script.now = c.rule-rule.ensures ∙ me.indexed conn (omega arith) in
    let found = chains_found me.proxy.now me.script.now conn c.rule-rule.result c.rule_chains-chains.result.now met c.rule_chains-chains.ensures in
    let whole = flags_found me.proxy.now me.script.now me.question.now.seed conn c.rule_chains-chains.result.now found in
    let ups : flags.upstream.items ≡ flags_for me.proxy.now me.script.now me.question.now.seed conn Upstream = c.link_flags-flags.ensures.upstream ∙ whole.0 in
    let downs : flags.downstream.items ≡ flags_for me.proxy.now me.script.now me.question.now.seed conn Downstream = c.link_flags-flags.ensures.downstream
    ∙ whole.1 in
    let text = link_text-found me.question.now me.proxy.now me.script.now conn c.rule-rule.result c.rule_chains-chains.result.now flags.upstream.items
    flags.downstream.items met found ups downs in
    let tallied = IsTallied-next me.proxy.now me.script.now me.question.now.seed turn.before c.rule-rule.result flags turn.tallies c.count_link.new.tallies met
    ups downs c.count_link.ensures turn.invariant.tallied in
    record {
      passed = Prints-more (link_text me.question.now me.proxy.now me.script.now)
          (IsAt-numbers_from 1 me.question.now.links turn.before c.loop-before-test.true) turn.invariant.passed
          (rw text at c.in_ok-print_link.ensures);
      long = omega (arith, c.count_link.auto.tallies, turn.invariant.long);
      tallied = rw add-one tallied;
    }

pub returns-in_err-print_link-clause-printed : goal.returns-in_err-print_link-clause-printed
returns-in_err-print_link-clause-printed g c =
    let me = c.args.self.now in
    let turn = c.loop-before in
    let conn = turn.before + 1 in
    let flags = c.link_flags-flags.result in
    let met : c.rule-rule.result ≡ covering_number me.proxy.now conn me.script.now = c.rule-rule.ensures ∙ me.indexed conn (omega arith) in
    let found = chains_found me.proxy.now me.script.now conn c.rule-rule.result c.rule_chains-chains.result.now met c.rule_chains-chains.ensures in
    let whole = flags_found me.proxy.now me.script.now me.question.now.seed conn c.rule_chains-chains.result.now found in
    let ups : flags.upstream.items ≡ flags_for me.proxy.now me.script.now me.question.now.seed conn Upstream = c.link_flags-flags.ensures.upstream ∙ whole.0 in
    let downs : flags.downstream.items ≡ flags_for me.proxy.now me.script.now me.question.now.seed conn Downstream = c.link_flags-flags.ensures.downstream
    ∙ whole.1 in
    let text = link_text-found me.question.now me.proxy.now me.script.now conn c.rule-rule.result c.rule_chains-chains.result.now flags.upstream.items
    flags.downstream.items met found ups downs in
    Prints-stopped (link_text me.question.now me.proxy.now me.script.now)
    (IsAt-numbers_from 1 me.question.now.links turn.before c.loop-before-test.true) c.from_residual.ensures.1 turn.invariant.passed
    (rw text at c.in_err-print_link.ensures)

pub returns-clause-printed : goal.returns-clause-printed
returns-clause-printed g c =
    let me = c.args.self.now in
    let all = numbers_from 1 me.question.now.links in
    let past : length all ≤ c.loop-before.before = omega (arith, length-numbers_from 1 me.question.now.links, c.loop-before-test.false) in
    Prints-all (link_text me.question.now me.proxy.now me.script.now) _ _ past c.loop-before.invariant.passed
