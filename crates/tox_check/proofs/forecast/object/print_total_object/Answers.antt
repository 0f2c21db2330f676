-- The fields are the numbers and the name.
use Rattle.std.proofs.Common.{ap}
use Rattle.tox_text.specs.JsonLine.{field_text}
use Rattle.tox_check.proofs.forecast.ObjectFields.{total_object-fields}
use Rattle.tox_text.proofs.Printings.{Prints-as}
use Rattle.tox_check.proofs.forecast.object.print_total_object.Goals as goal

pub returns : goal.returns
returns g c =
    let total = c.args.total.now in
    Prints-as (total_object-fields total.proxy.now total.rule total.number total.applied total.met total.name.now c.text.result c.number.result
    c.number-2.result c.number-3.result c.number-4.result c.text-2.result
    (ap field_text c.text.ensures) (ap field_text c.number.ensures) (ap field_text c.number-2.ensures)
    (ap field_text c.number-3.ensures) (ap field_text c.number-4.ensures) (ap field_text c.text-2.ensures))
    c.print_object.ensures
