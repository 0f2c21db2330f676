-- The lines of the first toxics have passed.
use Rattle.std.proofs.Common.{Ok, flat_map, map, string_bytes, take}
use Rattle.std.specs.List.{enumerate_from, zip}
use Rattle.tox_words.specs.Draw.{draws_of}
use Rattle.tox_text.specs.PickText.{picked_toxic_line}
use Rattle.tox_text.specs.Printing.{Prints}
use Rattle.tox_text.proofs.pick_text.print_toxics.Given as goal

abbrev pub invariant-loop-place : goal.invariant-loop-place
invariant-loop-place g l = Prints g.W.Sink (Ok tt) l.fn.printer l.printer
    (flat_map (λ placed. picked_toxic_line (draws_of l.drawing) placed.0 placed.1.0 placed.1.1)
    (take l.place (enumerate_from 0 (zip l.entries (map string_bytes l.names)))))
