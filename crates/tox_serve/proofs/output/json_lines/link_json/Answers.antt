-- The fields are the name, and the numbers and ends of the link.
use Rattle.std.proofs.Common.{ℕ, List, codes, ap, ◌∙◌, subst}
use Rattle.tox_text.specs.JsonLine.{field_text, text_field}
use Rattle.tox_serve.specs.output.LineText.{IsLine}
use Rattle.tox_serve.proofs.JsonParts.{link_object-fields}
use Rattle.tox_serve.proofs.output.json_lines.link_json.Goals as goal

pub returns : goal.returns
returns c =
    subst (IsLine c.of_object.result)
    (link_object-fields c.args.name.now c.args.end.now c.text.result c.number.result c.number-2.result c.text-2.result c.number-3.result c.text-3.result
    (ap field_text c.text.ensures) (ap field_text c.number.ensures) (ap field_text c.number-2.ensures)
    (ap field_text c.text-2.ensures ∙ ap (λ (word : List ℕ). text_field (codes "up_end") word) c.end_word.ensures)
    (ap field_text c.number-3.ensures)
    (ap field_text c.text-3.ensures ∙ ap (λ (word : List ℕ). text_field (codes "down_end") word) c.end_word-2.ensures))
    c.of_object.ensures
