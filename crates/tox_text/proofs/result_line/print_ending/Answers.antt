-- The words, and then the end of the line.
use Rattle.tox_text.proofs.Printings.{Prints-failed, Prints-then}
use Rattle.tox_text.proofs.result_line.print_ending.Goals as goal

pub returns-in_err-print_ending_words : goal.returns-in_err-print_ending_words
returns-in_err-print_ending_words g c =
    Prints-failed _ c.from_residual.ensures.1 c.in_err-print_ending_words.ensures

pub returns : goal.returns
returns g c = Prints-then c.in_ok-print_ending_words.ensures c.print.ensures
