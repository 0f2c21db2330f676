-- The first items were printed.
use Rattle.std.proofs.Common.{Ok, take, flat_map}
use Rattle.tox_text.specs.Json.{after_comma}
use Rattle.tox_text.specs.Printing.{Prints}
use Rattle.tox_text.proofs.json.print_others.Given as goal

abbrev pub invariant-loop-item : goal.invariant-loop-item
invariant-loop-item g l = Prints g.W.Sink (Ok tt) l.fn.printer l.printer (flat_map after_comma (take l.item-index l.items))
