-- The first lines have passed.
use Rattle.std.proofs.Common.{Ok, flat_map, map, take}
use Rattle.std.specs.List.{zip}
use Rattle.tox_text.specs.Printing.{Prints}
use Rattle.tox_inline.specs.Texts.{attribute_line}
use Rattle.tox_inline.proofs.script_text.print_attributes.Given as goal

abbrev pub invariant-loop-place : goal.invariant-loop-place
invariant-loop-place g l = Prints g.W.Sink (Ok tt) l.fn.printer l.printer
    (flat_map attribute_line (take l.place (zip (map (λ attribute. attribute.name.now) l.attributes) l.values)))
