-- The parts of the line.
use Rattle.tox_log.proofs.LineParts.{reset-parts}
use Rattle.tox_text.proofs.Printings.{Prints-as}
use Rattle.tox_log.proofs.line_text.print_reset.Goals as goal

pub returns : goal.returns
returns g c = Prints-as (reset-parts c.args.instant.now c.get.result c.get.ensures.value) c.print.ensures
