-- The first bytes have passed.
use Rattle.std.proofs.Common.{Ok, take, flat_map}
use Rattle.tox_text.specs.Json.{json_byte}
use Rattle.tox_text.specs.Printing.{Prints}
use Rattle.tox_text.proofs.json.print_inside.Given as goal

abbrev pub invariant-loop-byte : goal.invariant-loop-byte
invariant-loop-byte g l = Prints g.W.Sink (Ok tt) l.fn.printer l.printer (flat_map json_byte (take l.byte-index l.text))
