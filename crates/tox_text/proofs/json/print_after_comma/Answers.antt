-- The comma, and then the item.
use Rattle.tox_text.proofs.Printings.{Prints-failed, Prints-then}
use Rattle.tox_text.proofs.json.print_after_comma.Goals as goal

pub returns-in_err-put : goal.returns-in_err-put
returns-in_err-put g c =
    Prints-failed _ c.from_residual.ensures.1 c.in_err-put.ensures

pub returns : goal.returns
returns g c = Prints-then c.in_ok-put.ensures c.print_item.ensures
