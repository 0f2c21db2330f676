-- What stands before the toxics, and then they.
use Rattle.tox_text.proofs.Printings.{Prints-failed, Prints-then}
use Rattle.tox_inline.proofs.script_text.print_script.Goals as goal

pub returns-in_err-print : goal.returns-in_err-print
returns-in_err-print g c =
    Prints-failed _ c.from_residual.ensures.1 c.in_err-print.ensures

pub returns : goal.returns
returns g c = Prints-then c.in_ok-print.ensures c.print_toxics.ensures
