-- The first pairs have passed.
use Rattle.std.proofs.Common.{Ok, flat_map, map, take}
use Rattle.std.specs.List.{zip}
use Rattle.tox_text.specs.ShortForm.{shown_before_comma}
use Rattle.tox_text.specs.Printing.{Prints}
use Rattle.tox_text.proofs.short_form.print_attributes.Given as goal

abbrev pub invariant-loop-place : goal.invariant-loop-place
invariant-loop-place g l = Prints g.W.Sink (Ok tt) l.fn.printer l.printer
    (flat_map shown_before_comma (take l.place (zip (map (λ attribute. attribute.name.now) l.attributes) l.values)))
