-- The first connection, and then the last.
use Rattle.tox_check.proofs.SentenceParts.{range_text-parts}
use Rattle.tox_text.proofs.Printings.{Prints-as, Prints-failed, Prints-then}
use Rattle.tox_check.proofs.warning.ranges.print_range.Goals as goal

pub returns-in_err-print : goal.returns-in_err-print
returns-in_err-print g c =
    Prints-as (range_text-parts c.args.run.now)
    (Prints-failed _ c.from_residual.ensures.1 c.in_err-print.ensures)

pub returns : goal.returns
returns g c =
    Prints-as (range_text-parts c.args.run.now)
    (Prints-then c.in_ok-print.ensures c.print_end.ensures)
