-- The place and whether it is applied, the short form, and then the name.
use Rattle.tox_words.specs.Draw.{draws_of}
use Rattle.tox_text.proofs.PickParts.{picked_toxic_line-parts}
use Rattle.tox_text.proofs.Printings.{Prints-as, Prints-failed, Prints-then}
use Rattle.tox_text.proofs.pick_text.print_toxic.Goals as goal

pub returns-in_err-print_place : goal.returns-in_err-print_place
returns-in_err-print_place g c =
    Prints-as (picked_toxic_line-parts (draws_of c.args.drawing.now) c.args.place c.args.entry.now c.args.name.now _ c.is_applied.ensures)
    (Prints-failed _ c.from_residual.ensures.1 c.in_err-print_place.ensures)

pub returns-in_err-print_short : goal.returns-in_err-print_short
returns-in_err-print_short g c =
    Prints-as (picked_toxic_line-parts (draws_of c.args.drawing.now) c.args.place c.args.entry.now c.args.name.now _ c.is_applied.ensures)
    (Prints-then c.in_ok-print_place.ensures
    (Prints-failed _ c.from_residual-in_err-print_short.ensures.1 c.in_err-print_short.ensures))

pub returns : goal.returns
returns g c =
    Prints-as (picked_toxic_line-parts (draws_of c.args.drawing.now) c.args.place c.args.entry.now c.args.name.now _ c.is_applied.ensures)
    (Prints-then c.in_ok-print_place.ensures
    (Prints-then c.in_ok-print_short.ensures c.print.ensures))
