-- The parts are the line's.
use Rattle.tox_check.proofs.forecast.TotalParts.{total_line-parts}
use Rattle.tox_text.proofs.Printings.{Prints-as}
use Rattle.tox_check.proofs.forecast.totals.print_words.Goals as goal

pub returns : goal.returns
returns g c =
    let total = c.args.total.now in
    Prints-as (total_line-parts total.rule total.number total.applied total.met total.name.now) c.print.ensures
