-- The parts of the object.
use Rattle.std.proofs.Common.{ap, sym, ◌∙◌}
use Rattle.tox_log.specs.JudgedObject.{late_field}
use Rattle.tox_log.proofs.JudgedParts.{late_field-parts}
use Rattle.tox_text.proofs.Printings.{Prints-as}
use Rattle.tox_log.proofs.judged_json.print_late.Goals as goal

pub returns : goal.returns
returns g c =
    Prints-as (late_field-parts c.in-Some.late _ c.flag_word.ensures ∙ ap late_field (sym c.in-Some.is)) c.print.ensures
