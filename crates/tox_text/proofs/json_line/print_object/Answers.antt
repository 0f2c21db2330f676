-- What the line is about, its fields, and its end.
use Rattle.tox_text.proofs.Printings.{Prints-failed, Prints-then}
use Rattle.tox_text.proofs.json_line.print_object.Goals as goal

pub returns-in_err-print_event : goal.returns-in_err-print_event
returns-in_err-print_event g c =
    Prints-failed _ c.from_residual.ensures.1 c.in_err-print_event.ensures

pub returns-in_err-print_fields : goal.returns-in_err-print_fields
returns-in_err-print_fields g c =
    Prints-then c.in_ok-print_event.ensures (Prints-failed _ c.from_residual-in_err-print_fields.ensures.1 c.in_err-print_fields.ensures)

pub returns : goal.returns
returns g c =
    Prints-then c.in_ok-print_event.ensures
    (Prints-then c.in_ok-print_fields.ensures c.put.ensures)
