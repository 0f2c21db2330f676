-- The line upstream, and the one downstream.
use Rattle.tox_text.proofs.Printings.{Prints-failed, Prints-then}
use Rattle.tox_check.proofs.forecast.link_line.print_link.Goals as goal

pub returns-in_err-print_wanted : goal.returns-in_err-print_wanted
returns-in_err-print_wanted g c =
    Prints-failed _ c.from_residual.ensures.1 (rw (c.on.ensures, c.on-2.ensures) at c.in_err-print_wanted.ensures)

pub returns : goal.returns
returns g c =
    Prints-then (rw (c.on.ensures, c.on-2.ensures) at c.in_ok-print_wanted.ensures)
    (rw (c.on-3.ensures, c.on-4.ensures) at c.print_wanted-2.ensures)
