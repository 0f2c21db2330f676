-- The first parts have passed.
use Rattle.std.proofs.Common.{Ok, take}
use Rattle.tox_text.specs.Parts.{text_of}
use Rattle.tox_text.specs.Printing.{Prints}
use Rattle.tox_text.proofs.printer.SizedPrinter.print.Given as goal

abbrev pub invariant-loop-part : goal.invariant-loop-part
invariant-loop-part g l = Prints g.W.Sink (Ok tt) l.fn.self l.self (text_of (take l.part-index l.parts))
