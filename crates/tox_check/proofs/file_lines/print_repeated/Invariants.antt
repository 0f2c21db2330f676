-- The lines of the first elements have passed, and they are counted.
use Rattle.std.proofs.Common.{Ok, ◌≡◌, flat_map, length, take}
use Rattle.tox_text.specs.Printing.{Prints}
use Rattle.tox_check.specs.Checking.{held}
use Rattle.tox_check.specs.FileLines.{repeated_lines}
use Rattle.tox_check.specs.Printing.{joined_lines}
use Rattle.tox_check.proofs.file_lines.print_repeated.Given as goal

abbrev pub invariant-loop-name : goal.invariant-loop-name
invariant-loop-name g l = record {
  passed : Prints g.W.Sink (Ok tt) l.fn.printer l.printer (flat_map (λ each. joined_lines (repeated_lines each)) (take l.name-index l.repeated));
  counted : l.warned ≡ held (length (flat_map repeated_lines (take l.name-index l.repeated)));
}
