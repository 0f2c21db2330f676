-- Which log it is, and what came of it.
use Rattle.tox_text.proofs.Printings.{Prints-failed, Prints-then}
use Rattle.tox_log.proofs.judged_text.print_judged.Goals as goal

pub returns-in_err-print_stream : goal.returns-in_err-print_stream
returns-in_err-print_stream g c =
    Prints-failed _ c.from_residual.ensures.1 c.in_err-print_stream.ensures

pub returns : goal.returns
returns g c =
    Prints-then c.in_ok-print_stream.ensures c.print_outcome.ensures
