-- The instant, the bytes, and the line's end.
use Rattle.tox_log.proofs.HeardParts.{zeros_line-parts}
use Rattle.tox_text.proofs.Printings.{Prints-as, Prints-failed, Prints-then}
use Rattle.tox_log.proofs.heard_text.print_piece.Goals as goal

pub returns-in_err-print : goal.returns-in_err-print
returns-in_err-print g c =
    Prints-as (zeros_line-parts c.args.len c.args.instant.now _ c.get.ensures.value) (Prints-failed _ c.from_residual.ensures.1 c.in_err-print.ensures)

pub returns-in_err-print_zeros : goal.returns-in_err-print_zeros
returns-in_err-print_zeros g c =
    Prints-as (zeros_line-parts c.args.len c.args.instant.now _ c.get.ensures.value) (Prints-then c.in_ok-print.ensures
    (Prints-failed _ c.from_residual-in_err-print_zeros.ensures.1 c.in_err-print_zeros.ensures))

pub returns : goal.returns
returns g c =
    Prints-as (zeros_line-parts c.args.len c.args.instant.now _ c.get.ensures.value) (Prints-then c.in_ok-print.ensures
    (Prints-then c.in_ok-print_zeros.ensures c.print-2.ensures))
