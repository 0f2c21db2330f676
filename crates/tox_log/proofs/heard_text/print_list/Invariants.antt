-- The words before the index are printed.
use Rattle.std.proofs.Common.{decimal, map, take, Ok}
use Rattle.std.specs.List.{join_with_byte}
use Rattle.tox_text.specs.Printing.{Prints}
use Rattle.tox_log.proofs.heard_text.print_list.Given as goal

abbrev pub invariant-loop-index : goal.invariant-loop-index
invariant-loop-index g l = Prints g.W.Sink (Ok tt) l.fn.printer l.printer (join_with_byte 44 (take l.index (map decimal l.words)))
