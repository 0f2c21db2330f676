-- The proxy's line, and then those of the toxics.
use Rattle.tox_text.proofs.Printings.{Prints-failed, Prints-then}
use Rattle.tox_text.proofs.pick_text.print_lines.Goals as goal

pub returns-in_err-print_proxy : goal.returns-in_err-print_proxy
returns-in_err-print_proxy g c =
    Prints-failed _ c.from_residual.ensures.1 c.in_err-print_proxy.ensures

pub returns : goal.returns
returns g c = Prints-then c.in_ok-print_proxy.ensures c.print_toxics.ensures
