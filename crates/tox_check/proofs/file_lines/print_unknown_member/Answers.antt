-- The names, and then one that is near.
use Rattle.std.specs.Prelude.{option_map}
use Rattle.tox_check.proofs.SentenceParts.{unread_line-parts}
use Rattle.tox_text.proofs.Printings.{Prints-as, Prints-failed, Prints-then}
use Rattle.tox_check.proofs.file_lines.print_unknown_member.Goals as goal

pub returns-in_err-print : goal.returns-in_err-print
returns-in_err-print g c =
    Prints-as (unread_line-parts c.args.proxy.now c.args.key.now (option_map (λ near. near.now) c.args.near))
    (Prints-failed _ c.from_residual.ensures.1 c.in_err-print.ensures)

pub returns : goal.returns
returns g c =
    Prints-as (unread_line-parts c.args.proxy.now c.args.key.now (option_map (λ near. near.now) c.args.near))
    (Prints-then c.in_ok-print.ensures c.print_near.ensures)
