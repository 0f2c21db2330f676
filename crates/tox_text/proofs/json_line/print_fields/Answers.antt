-- One field behind the other.
use Rattle.std.proofs.Common.{[]}
use Rattle.tox_text.specs.JsonLine.{field_text}
use Rattle.tox_text.specs.declared.json.JsonItem.TheVariants.{Text}
use Rattle.tox_text.specs.declared.json.JsonValue.TheVariants.{One}
use Rattle.tox_text.specs.declared.json_line.JsonField.{JsonField}
use Rattle.tox_text.proofs.Listed.{IsAt-read}
use Rattle.tox_text.proofs.Printings.{Prints-more, Prints-stopped}
use Rattle.tox_text.proofs.json_line.print_fields.Goals as goal

-- what is read past the end
abbrev no_field : JsonField
no_field = record { key = record { ref_ptr = (0, 0); now = [] }; value = One (Text (record { ref_ptr = (0, 0); now = [] })) }

pub loop-field-preserved : goal.loop-field-preserved
loop-field-preserved g c =
    let here = IsAt-read c.args.fields.now c.loop-field.field-index no_field c.loop-field-test.true in
    Prints-more field_text here c.loop-field.invariant c.in_ok-print_field.ensures

pub returns-in_err-print_field : goal.returns-in_err-print_field
returns-in_err-print_field g c =
    let here = IsAt-read c.args.fields.now c.loop-field.field-index no_field c.loop-field-test.true in
    Prints-stopped field_text here c.from_residual.ensures.1 c.loop-field.invariant c.in_err-print_field.ensures
