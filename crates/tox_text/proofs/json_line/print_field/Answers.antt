-- The key, and then the value.
use Rattle.tox_text.proofs.Printings.{Prints-failed, Prints-then}
use Rattle.tox_text.proofs.json_line.print_field.Goals as goal

pub returns-in_err-print_key : goal.returns-in_err-print_key
returns-in_err-print_key g c =
    Prints-failed _ c.from_residual.ensures.1 c.in_err-print_key.ensures

pub returns : goal.returns
returns g c = Prints-then c.in_ok-print_key.ensures c.print_value.ensures
