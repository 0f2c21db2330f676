-- The lines, and then the totals.
use Rattle.tox_text.proofs.Printings.{Prints-failed, Prints-then}
use Rattle.tox_check.proofs.forecast.proxy_forecast.Forecast.print.Goals as goal

pub returns-in_err-print_links : goal.returns-in_err-print_links
returns-in_err-print_links g c =
    Prints-failed _ c.from_residual.ensures.1 c.in_err-print_links.ensures.printed

pub returns : goal.returns
returns g c = Prints-then c.in_ok-print_links.ensures.printed c.print_totals.ensures
