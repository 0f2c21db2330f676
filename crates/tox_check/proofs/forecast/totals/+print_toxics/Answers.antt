-- The first toxic, and then the others.
use Rattle.std.proofs.Common.{◌-◌, length, take, drop, ap, ◌∙◌}
use Rattle.std.proofs.lemmas.List.{take_rest}
use Rattle.tox_time.specs.declared.streams.stream.Stream.TheVariants.{Upstream}
use Rattle.tox_check.specs.forecast.Tally.{totals_in}
use Rattle.tox_check.specs.forecast.Totals.{toxic_totals}
use Rattle.tox_check.proofs.forecast.TotalParts.{toxic_totals-cons}
use Rattle.tox_text.proofs.Printings.{Prints-as, Prints-failed, Prints-then}
use Rattle.tox_check.proofs.forecast.totals.+print_toxics.Goals as goal

pub returns-in_err-print_toxic : goal.returns-in_err-print_toxic
returns-in_err-print_toxic g t c =
    let counted = c.args.counted.now in
    Prints-as (toxic_totals-cons counted.json counted.proxy.now counted.rule (totals_in counted.tally.now) counted.chains.now c.args.at c.args.order.now
    Upstream c.in-len1-up.len_at_least)
    (Prints-failed _ c.from_residual.ensures.1 c.in_err-print_toxic.ensures)

pub returns : goal.returns
returns g t c =
    let counted = c.args.counted.now in
    let rest = ap (λ at. toxic_totals counted.json counted.proxy.now counted.rule (totals_in counted.tally.now) counted.chains.now at
    (take (length c.args.order.now - 1) (drop 1 c.args.order.now))) c.after.ensures
    ∙ ap (toxic_totals counted.json counted.proxy.now counted.rule (totals_in counted.tally.now) counted.chains.now _) (take_rest c.args.order.now 1) in
    Prints-as (toxic_totals-cons counted.json counted.proxy.now counted.rule (totals_in counted.tally.now) counted.chains.now c.args.at c.args.order.now
    Upstream c.in-len1-up.len_at_least)
    (Prints-then c.in_ok-print_toxic.ensures
    (Prints-as rest c.print_toxics.ensures))
