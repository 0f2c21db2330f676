-- The fields are those of the stream.
use Rattle.std.proofs.Common.{ℕ, List, ◌++◌, codes, ap, ◌∙◌, subst}
use Rattle.tox_text.specs.Json.{array_text}
use Rattle.tox_text.specs.JsonLine.{field_text, key_text, text_field}
use Rattle.tox_text.specs.declared.json.JsonItem.{JsonItem}
use Rattle.tox_serve.specs.output.LineText.{IsLine}
use Rattle.tox_serve.proofs.JsonParts.{open_object-fields}
use Rattle.tox_serve.proofs.output.open_line.json_with.Goals as goal

pub returns : goal.returns
returns c =
    subst (IsLine c.of_object.result)
    (open_object-fields c.args.opened.now c.text.result c.number.result c.text-2.result c.text-3.result c.toxics_field.result
    (ap field_text c.text.ensures) (ap field_text c.number.ensures)
    (ap field_text c.text-2.ensures ∙ ap (λ (word : List ℕ). text_field (codes "stream") word) c.name.ensures)
    (ap field_text c.text-3.ensures)
    (c.toxics_field.ensures ∙ ap (λ (items : List JsonItem). key_text (codes "toxics") ++ array_text items) c.requires))
    c.of_object.ensures
