-- The parts of the line.
use Rattle.std.proofs.Common.{ap, sym, ◌∙◌}
use Rattle.tox_log.specs.JudgedText.{late_text}
use Rattle.tox_log.proofs.JudgedLineParts.{late_text-parts}
use Rattle.tox_text.proofs.Printings.{Prints-as}
use Rattle.tox_log.proofs.judged_text.print_late.Goals as goal

pub returns : goal.returns
returns g c =
    Prints-as (late_text-parts c.in-Some.late _ c.mark_of-mark.ensures ∙ ap late_text (sym c.in-Some.is)) c.print-2.ensures
