-- The word, and then the instant.
use Rattle.std.proofs.Common.{ap}
use Rattle.tox_text.specs.JsonLine.{field_text}
use Rattle.tox_log.proofs.JudgedParts.{ended_fields-parts}
use Rattle.tox_text.proofs.Printings.{Prints-as}
use Rattle.tox_log.proofs.judged_json.print_ended.Goals as goal

pub returns : goal.returns
returns g c =
    Prints-as (ended_fields-parts c.args.word.now c.args.instant c.text.result c.number.result (ap field_text c.text.ensures) (ap field_text c.number.ensures))
    c.print_fields.ensures
