-- One part behind the other.
use Rattle.tox_text.proofs.Printings.{Prints-failed, Prints-then}
use Rattle.tox_log.proofs.judged_text.print_said.Goals as goal

pub returns-in_err-print_counts : goal.returns-in_err-print_counts
returns-in_err-print_counts g c =
    Prints-failed _ c.from_residual.ensures.1 c.in_err-print_counts.ensures

pub returns-in_err-print_end : goal.returns-in_err-print_end
returns-in_err-print_end g c =
    Prints-then c.in_ok-print_counts.ensures
    (Prints-failed _ c.from_residual-in_err-print_end.ensures.1 c.in_err-print_end.ensures)

pub returns-in_err-print_writes : goal.returns-in_err-print_writes
returns-in_err-print_writes g c =
    Prints-then c.in_ok-print_counts.ensures
    (Prints-then c.in_ok-print_end.ensures
    (Prints-failed _ c.from_residual-in_err-print_writes.ensures.1 c.in_err-print_writes.ensures))

pub returns : goal.returns
returns g c =
    Prints-then c.in_ok-print_counts.ensures
    (Prints-then c.in_ok-print_end.ensures
    (Prints-then c.in_ok-print_writes.ensures c.print_late.ensures))
