-- The rule, and then what is reported of it.
use Rattle.tox_check.proofs.SentenceParts.{sentence-parts}
use Rattle.tox_text.proofs.Printings.{Prints-as, Prints-failed, Prints-then}
use Rattle.tox_check.proofs.warning.print_warning.Goals as goal

pub returns-in_err-print : goal.returns-in_err-print
returns-in_err-print g c =
    Prints-as (sentence-parts c.args.rule c.args.warning.now)
    (Prints-failed _ c.from_residual.ensures.1 c.in_err-print.ensures)

pub returns : goal.returns
returns g c =
    Prints-as (sentence-parts c.args.rule c.args.warning.now)
    (Prints-then c.in_ok-print.ensures c.print_sentence.ensures)
