-- The parts of the line.
use Rattle.tox_log.proofs.JudgedLineParts.{counts_text-parts}
use Rattle.tox_text.proofs.Printings.{Prints-as}
use Rattle.tox_log.proofs.judged_text.print_counts.Goals as goal

pub returns : goal.returns
returns g c = Prints-as (counts_text-parts c.args.log.now) c.print.ensures
