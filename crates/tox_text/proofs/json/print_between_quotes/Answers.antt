-- A quote, the text, and a quote.
use Rattle.tox_text.proofs.Printings.{Prints-failed, Prints-then}
use Rattle.tox_text.proofs.json.print_between_quotes.Goals as goal

pub returns-in_err-put : goal.returns-in_err-put
returns-in_err-put g c =
    Prints-failed _ c.from_residual.ensures.1 c.in_err-put.ensures

pub returns-in_err-print_inside : goal.returns-in_err-print_inside
returns-in_err-print_inside g c =
    Prints-then c.in_ok-put.ensures (Prints-failed _ c.from_residual-in_err-print_inside.ensures.1 c.in_err-print_inside.ensures)

pub returns : goal.returns
returns g c =
    Prints-then c.in_ok-put.ensures
    (Prints-then c.in_ok-print_inside.ensures c.put-2.ensures)
