-- Which log it is, and what came of it.
use Rattle.tox_text.proofs.Printings.{Prints-failed, Prints-then}
use Rattle.tox_log.proofs.judged_json.print_judged_json.Goals as goal

pub returns-in_err-print_event : goal.returns-in_err-print_event
returns-in_err-print_event g c =
    Prints-failed _ c.from_residual.ensures.1 c.in_err-print_event.ensures

pub returns-in_err-print_stream : goal.returns-in_err-print_stream
returns-in_err-print_stream g c =
    Prints-then c.in_ok-print_event.ensures (Prints-failed _ c.from_residual-in_err-print_stream.ensures.1 c.in_err-print_stream.ensures)

pub returns-in_err-print_outcome : goal.returns-in_err-print_outcome
returns-in_err-print_outcome g c =
    Prints-then c.in_ok-print_event.ensures
    (Prints-then c.in_ok-print_stream.ensures (Prints-failed _ c.from_residual-in_err-print_outcome.ensures.1 c.in_err-print_outcome.ensures))

pub returns : goal.returns
returns g c =
    Prints-then c.in_ok-print_event.ensures
    (Prints-then c.in_ok-print_stream.ensures (Prints-then c.in_ok-print_outcome.ensures c.print.ensures))
