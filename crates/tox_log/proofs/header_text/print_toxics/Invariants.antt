-- The lines of the first toxics have passed.
use Rattle.std.proofs.Common.{Ok, flat_map, map, take}
use Rattle.std.specs.List.{zip}
use Rattle.tox_text.specs.Printing.{Prints}
use Rattle.tox_log.specs.HeaderText.{printed_name, toxic_line}
use Rattle.tox_log.proofs.header_text.print_toxics.Given as goal

abbrev pub invariant-loop-place : goal.invariant-loop-place
invariant-loop-place g l = Prints g.W.Sink (Ok tt) l.fn.printer l.printer
    (flat_map (λ named. toxic_line named.0 named.1) (take l.place (zip l.entries (map printed_name l.names))))
