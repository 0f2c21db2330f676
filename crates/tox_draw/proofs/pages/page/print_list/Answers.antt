-- The logs that can't be judged, the links, and the table's end.
use Rattle.tox_draw.specs.pages.Pages.{page_list}
use Rattle.tox_text.proofs.Printings.{Prints-failed, Prints-then}
use Rattle.tox_draw.proofs.pages.page.print_list.Goals as goal

pub returns-in_err-print_refusals : goal.returns-in_err-print_refusals
unfolding page_list
returns-in_err-print_refusals g c =
    Prints-failed _ c.from_residual.ensures.1 c.in_err-print_refusals.ensures

pub returns-in_err-print_links : goal.returns-in_err-print_links
unfolding page_list
returns-in_err-print_links g c =
    Prints-then c.in_ok-print_refusals.ensures
    (Prints-failed _ c.from_residual-in_err-print_links.ensures.1 c.in_err-print_links.ensures)

pub returns : goal.returns
unfolding page_list
returns g c =
    Prints-then c.in_ok-print_refusals.ensures
    (Prints-then c.in_ok-print_links.ensures c.print_table_end.ensures)
