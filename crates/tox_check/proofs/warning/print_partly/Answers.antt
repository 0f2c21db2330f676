-- The rule's own connections, and then those that others get.
use Rattle.tox_text.proofs.Printings.{Prints-failed, Prints-then}
use Rattle.tox_check.proofs.warning.print_partly.Goals as goal

pub returns-in_err-print : goal.returns-in_err-print
returns-in_err-print g c =
    Prints-failed _ c.from_residual.ensures.1 c.in_err-print.ensures

pub returns-in_err-print_ranges : goal.returns-in_err-print_ranges
returns-in_err-print_ranges g c =
    Prints-then c.in_ok-print.ensures
    (Prints-failed _ c.from_residual-in_err-print_ranges.ensures.1 (rw c.as_slice.ensures.value at c.in_err-print_ranges.ensures))

pub returns-in_err-print_more : goal.returns-in_err-print_more
returns-in_err-print_more g c =
    Prints-then c.in_ok-print.ensures
    (Prints-then (rw c.as_slice.ensures.value at c.in_ok-print_ranges.ensures)
    (Prints-failed _ c.from_residual-in_err-print_more.ensures.1 c.in_err-print_more.ensures))

pub returns-in_err-print-2 : goal.returns-in_err-print-2
returns-in_err-print-2 g c =
    Prints-then c.in_ok-print.ensures
    (Prints-then (rw c.as_slice.ensures.value at c.in_ok-print_ranges.ensures)
    (Prints-then c.in_ok-print_more.ensures
    (Prints-failed _ c.from_residual-in_err-print-2.ensures.1 c.in_err-print-2.ensures)))

pub returns-in_err-print_taken : goal.returns-in_err-print_taken
returns-in_err-print_taken g c =
    Prints-then c.in_ok-print.ensures
    (Prints-then (rw c.as_slice.ensures.value at c.in_ok-print_ranges.ensures)
    (Prints-then c.in_ok-print_more.ensures
    (Prints-then c.in_ok-print-2.ensures
    (Prints-failed _ c.from_residual-in_err-print_taken.ensures.1 (rw c.as_slice-2.ensures.value at c.in_err-print_taken.ensures)))))

pub returns-in_err-print_more-2 : goal.returns-in_err-print_more-2
returns-in_err-print_more-2 g c =
    Prints-then c.in_ok-print.ensures
    (Prints-then (rw c.as_slice.ensures.value at c.in_ok-print_ranges.ensures)
    (Prints-then c.in_ok-print_more.ensures
    (Prints-then c.in_ok-print-2.ensures
    (Prints-then (rw c.as_slice-2.ensures.value at c.in_ok-print_taken.ensures)
    (Prints-failed _ c.from_residual-in_err-print_more-2.ensures.1 c.in_err-print_more-2.ensures)))))

pub returns : goal.returns
returns g c =
    Prints-then c.in_ok-print.ensures
    (Prints-then (rw c.as_slice.ensures.value at c.in_ok-print_ranges.ensures)
    (Prints-then c.in_ok-print_more.ensures
    (Prints-then c.in_ok-print-2.ensures
    (Prints-then (rw c.as_slice-2.ensures.value at c.in_ok-print_taken.ensures)
    (Prints-then c.in_ok-print_more-2.ensures c.print-3.ensures)))))
