-- The first item, and then the others.
use Rattle.tox_text.proofs.Printings.{Prints-failed, Prints-then}
use Rattle.tox_text.proofs.json.print_listed.Goals as goal

pub returns-in_err-put : goal.returns-in_err-put
returns-in_err-put g c =
    Prints-failed _ c.from_residual.ensures.1 c.in_err-put.ensures

pub returns-in_err-print_item : goal.returns-in_err-print_item
returns-in_err-print_item g c =
    Prints-then c.in_ok-put.ensures (Prints-failed _ c.from_residual-in_err-print_item.ensures.1 c.in_err-print_item.ensures)

pub returns-in_err-print_others : goal.returns-in_err-print_others
returns-in_err-print_others g c =
    Prints-then c.in_ok-put.ensures
    (Prints-then c.in_ok-print_item.ensures (Prints-failed _ c.from_residual-in_err-print_others.ensures.1 c.in_err-print_others.ensures))

pub returns : goal.returns
returns g c =
    Prints-then c.in_ok-put.ensures
    (Prints-then c.in_ok-print_item.ensures (Prints-then c.in_ok-print_others.ensures c.put-2.ensures))
