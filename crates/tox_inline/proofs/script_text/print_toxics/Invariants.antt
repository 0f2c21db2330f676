-- The first toxics were printed.
use Rattle.std.proofs.Common.{Ok, take, flat_map}
use Rattle.tox_text.specs.Printing.{Prints}
use Rattle.tox_inline.specs.Texts.{toxic_text}
use Rattle.tox_inline.proofs.script_text.print_toxics.Given as goal

abbrev pub invariant-loop-toxic : goal.invariant-loop-toxic
invariant-loop-toxic g l = Prints g.W.Sink (Ok tt) l.fn.printer l.printer (flat_map toxic_text (take l.toxic-index l.toxics))
