-- An entry that is met joins the others, and one that isn't changes nothing.
use Rattle.std.proofs.Common.{List, ◌+◌, ◌∙◌, refl, ap, sym, subst}
use Rattle.tox_defs.specs.declared.chain.applied.Placed.{Placed}
use Rattle.tox_defs.proofs.Gathered.{Gathers, gathers-met, gathers-skipped}
use Rattle.tox_defs.proofs.chain.Chain.applied.Goals.{then-is_applied, else-is_applied}
use Rattle.tox_defs.proofs.chain.Chain.applied.Goals as goal

pub loop-place-preserved : goal.loop-place-preserved
loop-place-preserved c =
    let chain = c.args.self.now in
    let words = c.args.words.now in
    let place = c.loop-place.place in
    let same = c.entries-entry-items.ensures.value in
    let Kept : List Placed → Type 0 = λ met. Gathers chain words (place + 1) met in
    elim c.if-is_applied.branch [
      | then-is_applied w ↦
          subst Kept (sym (ap (λ met. met.items) w.met-is ∙ w.push.ensures.items))
          (gathers-met chain words place c.loop-place.met.items _ _ _ c.entries-entry-items.ensures.chain same c.loop-place-test.true refl
          (rw (c.new-drawing.ensures, c.lanes.ensures) at (sym c.is_applied.ensures ∙ w.if-is_applied.true)) c.loop-place.invariant)
      | else-is_applied w ↦
          subst Kept (sym (ap (λ met. met.items) w.met-is))
          (gathers-skipped chain words place c.loop-place.met.items _ _ _ same c.loop-place-test.true refl
          (rw (c.new-drawing.ensures, c.lanes.ensures) at (sym c.is_applied.ensures ∙ w.if-is_applied.false)) c.loop-place.invariant)
    ]
