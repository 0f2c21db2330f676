-- The first fields were printed.
use Rattle.std.proofs.Common.{Ok, take, flat_map}
use Rattle.tox_text.specs.JsonLine.{field_text}
use Rattle.tox_text.specs.Printing.{Prints}
use Rattle.tox_text.proofs.json_line.print_fields.Given as goal

abbrev pub invariant-loop-field : goal.invariant-loop-field
invariant-loop-field g l = Prints g.W.Sink (Ok tt) l.fn.printer l.printer (flat_map field_text (take l.field-index l.fields))
