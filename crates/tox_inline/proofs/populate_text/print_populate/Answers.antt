-- The two addresses, and what stands around them.
use Rattle.tox_text.proofs.Printings.{Prints-failed, Prints-then}
use Rattle.tox_inline.proofs.populate_text.print_populate.Goals as goal

pub returns-in_err-print : goal.returns-in_err-print
returns-in_err-print g c =
    Prints-failed _ c.from_residual.ensures.1 c.in_err-print.ensures

pub returns-in_err-print_quoted : goal.returns-in_err-print_quoted
returns-in_err-print_quoted g c =
    Prints-then c.in_ok-print.ensures (Prints-failed _ c.from_residual-in_err-print_quoted.ensures.1 c.in_err-print_quoted.ensures)

pub returns-in_err-print-2 : goal.returns-in_err-print-2
returns-in_err-print-2 g c =
    Prints-then c.in_ok-print.ensures
    (Prints-then c.in_ok-print_quoted.ensures (Prints-failed _ c.from_residual-in_err-print-2.ensures.1 c.in_err-print-2.ensures))

pub returns-in_err-print_quoted-2 : goal.returns-in_err-print_quoted-2
returns-in_err-print_quoted-2 g c =
    Prints-then c.in_ok-print.ensures
    (Prints-then c.in_ok-print_quoted.ensures
    (Prints-then c.in_ok-print-2.ensures (Prints-failed _ c.from_residual-in_err-print_quoted-2.ensures.1 c.in_err-print_quoted-2.ensures)))

pub returns : goal.returns
returns g c =
    Prints-then c.in_ok-print.ensures
    (Prints-then c.in_ok-print_quoted.ensures
    (Prints-then c.in_ok-print-2.ensures
    (Prints-then c.in_ok-print_quoted-2.ensures c.print-3.ensures)))
