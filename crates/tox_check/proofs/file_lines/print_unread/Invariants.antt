-- The lines of the first elements have passed, and they are counted.
use Rattle.std.proofs.Common.{Ok, ◌≡◌, flat_map, length, take}
use Rattle.tox_text.specs.Printing.{Prints}
use Rattle.tox_check.specs.Checking.{held}
use Rattle.tox_check.specs.FileLines.{unread_lines}
use Rattle.tox_check.specs.Printing.{joined_lines}
use Rattle.tox_check.proofs.file_lines.print_unread.Given as goal

abbrev pub invariant-loop-member : goal.invariant-loop-member
invariant-loop-member g l = record {
  passed : Prints g.W.Sink (Ok tt) l.fn.printer l.printer (flat_map (λ each. joined_lines (unread_lines each)) (take l.member-index l.unread));
  counted : l.warned ≡ held (length (flat_map unread_lines (take l.member-index l.unread)));
}
