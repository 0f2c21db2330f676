-- The word, the short form, and then the name.
use Rattle.tox_log.proofs.HeaderParts.{toxic_line-parts}
use Rattle.tox_text.specs.Names.{visible_name}
use Rattle.tox_text.proofs.Printings.{Prints-as, Prints-failed, Prints-then}
use Rattle.tox_log.proofs.header_text.print_toxic.Goals as goal

pub returns-in_err-print : goal.returns-in_err-print
returns-in_err-print g c =
    Prints-as (toxic_line-parts c.args.entry.now (visible_name c.args.name.now))
    (Prints-failed _ c.from_residual.ensures.1 c.in_err-print.ensures)

pub returns-in_err-print_short : goal.returns-in_err-print_short
returns-in_err-print_short g c =
    Prints-as (toxic_line-parts c.args.entry.now (visible_name c.args.name.now))
    (Prints-then c.in_ok-print.ensures
    (Prints-failed _ c.from_residual-in_err-print_short.ensures.1 c.in_err-print_short.ensures))

pub returns : goal.returns
returns g c =
    Prints-as (toxic_line-parts c.args.entry.now (visible_name c.args.name.now))
    (Prints-then c.in_ok-print.ensures
    (Prints-then c.in_ok-print_short.ensures c.print-2.ensures))
