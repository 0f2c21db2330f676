-- The head, the places, and the line's end.
use Rattle.tox_text.proofs.Printings.{Prints-failed, Prints-then}
use Rattle.tox_check.proofs.forecast.link_line.print_words.Goals as goal

pub returns-in_err-print_head : goal.returns-in_err-print_head
returns-in_err-print_head g c =
    Prints-failed _ c.from_residual.ensures.1 c.in_err-print_head.ensures

pub returns-in_err-print_places : goal.returns-in_err-print_places
returns-in_err-print_places g c =
    Prints-then c.in_ok-print_head.ensures (Prints-failed _ c.from_residual-in_err-print_places.ensures.1 c.in_err-print_places.ensures)

pub returns : goal.returns
returns g c =
    Prints-then c.in_ok-print_head.ensures
    (Prints-then c.in_ok-print_places.ensures c.print.ensures)
