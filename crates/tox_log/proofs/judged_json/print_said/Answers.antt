-- One field behind the other.
use Rattle.tox_text.proofs.Printings.{Prints-failed, Prints-then}
use Rattle.tox_log.proofs.judged_json.print_said.Goals as goal

pub returns-in_err-print_number : goal.returns-in_err-print_number
returns-in_err-print_number g c =
    Prints-failed _ c.from_residual.ensures.1 c.in_err-print_number.ensures

pub returns-in_err-print_number-2 : goal.returns-in_err-print_number-2
returns-in_err-print_number-2 g c =
    Prints-then c.in_ok-print_number.ensures
    (Prints-failed _ c.from_residual-in_err-print_number-2.ensures.1 c.in_err-print_number-2.ensures)

pub returns-in_err-print_end : goal.returns-in_err-print_end
returns-in_err-print_end g c =
    Prints-then c.in_ok-print_number.ensures
    (Prints-then c.in_ok-print_number-2.ensures
    (Prints-failed _ c.from_residual-in_err-print_end.ensures.1 c.in_err-print_end.ensures))

pub returns-in_err-print_number-3 : goal.returns-in_err-print_number-3
returns-in_err-print_number-3 g c =
    Prints-then c.in_ok-print_number.ensures
    (Prints-then c.in_ok-print_number-2.ensures
    (Prints-then c.in_ok-print_end.ensures
    (Prints-failed _ c.from_residual-in_err-print_number-3.ensures.1 c.in_err-print_number-3.ensures)))

pub returns : goal.returns
returns g c =
    Prints-then c.in_ok-print_number.ensures
    (Prints-then c.in_ok-print_number-2.ensures
    (Prints-then c.in_ok-print_end.ensures
    (Prints-then c.in_ok-print_number-3.ensures c.print_late.ensures)))
