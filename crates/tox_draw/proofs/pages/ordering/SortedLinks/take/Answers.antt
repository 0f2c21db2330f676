-- A log that makes a link with the one that waits, or takes its place.
use Rattle.std.proofs.Common.{◌∷◌, Option, ◌∙◌, subst, sym}
use Rattle.tox_draw.specs.declared.pages.row.Row.{Row}
use Rattle.tox_draw.specs.pages.Ordering.{AddsLink, LinksSoFar}
use Rattle.tox_draw.proofs.pages.Sorted.{takes-apart, takes-joined}
use Rattle.tox_draw.proofs.pages.ordering.SortedLinks.take.Goals as goal

pub returns-then-makes_link : goal.returns-then-makes_link
returns-then-makes_link c = λ left rows so_far.
    takes-joined c.args.self.now c.add.new.self c.in-Some.first c.args.row left rows (sym c.makes_link.ensures ∙ c.if-makes_link.true)
    (subst (λ link. AddsLink c.args.self.now link c.add.new.self) c.joined.ensures c.in_ok-add.ensures)
    (subst (λ (waiting : Option Row). LinksSoFar c.args.self.now waiting (c.args.row ∷ left) rows) c.in-Some.is so_far)

pub returns : goal.returns
returns c = λ left rows so_far.
    takes-apart c.args.self.now c.add-2.new.self c.in-Some.first c.args.row left rows (sym c.makes_link.ensures ∙ c.if-makes_link.false) c.in_ok-add-2.ensures
    (subst (λ (waiting : Option Row). LinksSoFar c.args.self.now waiting (c.args.row ∷ left) rows) c.in-Some.is so_far)
