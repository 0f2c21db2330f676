-- The words, and then the line's end.
use Rattle.tox_text.proofs.Printings.{Prints-failed, Prints-then}
use Rattle.tox_log.proofs.heard_text.print_words_line.Goals as goal

pub returns-in_err-print_list : goal.returns-in_err-print_list
returns-in_err-print_list g c =
    Prints-failed _ c.from_residual.ensures.1 c.in_err-print_list.ensures

pub returns : goal.returns
returns g c =
    Prints-then c.in_ok-print_list.ensures c.print.ensures
