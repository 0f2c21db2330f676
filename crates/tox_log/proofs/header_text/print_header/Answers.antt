-- The first three lines, and then those of the toxics.
use Rattle.tox_text.proofs.Printings.{Prints-failed, Prints-then}
use Rattle.tox_log.proofs.header_text.print_header.Goals as goal

pub returns-in_err-print_heading : goal.returns-in_err-print_heading
returns-in_err-print_heading g c =
    Prints-failed _ c.from_residual.ensures.1 (rw c.lanes.ensures at c.in_err-print_heading.ensures)

pub returns : goal.returns
returns g c =
    Prints-then (rw c.lanes.ensures at c.in_ok-print_heading.ensures)
    (rw c.entries.ensures.value at c.print_toxics.ensures)
