-- The fields are the connection's, its rule's, and the places.
use Rattle.std.proofs.Common.{ℕ, List, ◌++◌, codes, ap, ◌∙◌}
use Rattle.tox_text.specs.Json.{array_text}
use Rattle.tox_text.specs.JsonLine.{field_text, key_text, number_field, text_field}
use Rattle.tox_text.specs.declared.json.JsonItem.{JsonItem}
use Rattle.tox_check.proofs.forecast.ObjectFields.{stream_object-fields}
use Rattle.tox_text.proofs.Printings.{Prints-as}
use Rattle.tox_check.proofs.forecast.object.print_stream_object.Goals as goal

pub returns : goal.returns
returns g c =
    let met = c.args.met.now in
    Prints-as (stream_object-fields met.proxy.now met.conn c.args.stream met.rule c.args.flags.now c.text.result c.number.result c.text-2.result
    c.number-2.result c.applied_field.result
    (ap field_text c.text.ensures) (ap field_text c.number.ensures)
    (ap field_text c.text-2.ensures ∙ ap (λ (word : List ℕ). text_field (codes "stream") word) c.name.ensures)
    (ap field_text c.number-2.ensures ∙ ap (λ (number : ℕ). number_field (codes "rule") number) c.number_of.ensures)
    (c.applied_field.ensures ∙ ap (λ (items : List JsonItem). key_text (codes "applied") ++ array_text items)
    (c.deref.ensures.0 ∙ c.place_items-places.ensures)))
    c.print_object.ensures
