-- The one field.
use Rattle.std.proofs.Common.{ap, ◌∙◌, append-nil}
use Rattle.tox_text.specs.JsonLine.{field_text}
use Rattle.tox_text.proofs.Printings.{Prints-as}
use Rattle.tox_log.proofs.judged_json.print_number.Goals as goal

pub returns : goal.returns
returns g c =
    Prints-as (append-nil (field_text c.number.result) ∙ ap field_text c.number.ensures) c.print_fields.ensures
