-- A found cut is the last one where it stops with the piece and no cursor keeps an ending.
use Rattle.std.proofs.Common.{rules, ◌≡◌, true, false, None, length, sym, subst, ◌∙◌}
use Rattle.std.proofs.lemmas.Bool.{eqb-true, not-true}
use Rattle.tox_words.specs.Draw.{draws_of}
use Rattle.tox_plan.specs.OpCursors.{AreDrained, AreOpenUnless, IsNext}
use Rattle.tox_plan.specs.Phase.{phase_view}
use Rattle.tox_plan.specs.RunnerInside.{runner_view}
use Rattle.tox_plan.proofs.Looking.{refill-whole, drained-behind, IsRunning-after_found}
use Rattle.tox_plan.proofs.runner.Runner.look.Goals as goal
use Rattle.tox_plan.proofs.runner.Runner.look.Goals.{then-cut-self, else-cut-self}

pub invariant_of-self : goal.invariant_of-self
invariant_of-self c =
    let same : length c.pull.new.cursors ≡ length c.self.inside.cursors.items = search rules in
    let unread : (phase_view c.self.inside.phase).drained ≡ false = search rules in
    let unfound : c.self.inside.lookahead ≡ None = search rules in
    let next : IsNext (draws_of c.self.inside.drawing) c.self.inside.position c.self.inside.cursors.items c.pull.new.cursors c.self.inside.piece
    c.in-Some-Piece.cut = search rules in
    let unended : AreOpenUnless c.pull.new.looks.ended c.pull.new.cursors =
    c.pull.ensures.ended (subst (λ cursors. AreOpenUnless c.self.inside.looks.ended cursors) (sym c.deref_mut.ensures.value) c.self.invariant.unended) in
    let drained : c.if-cut-self.last ≡ true → AreDrained c.in-Some-Piece.cut.span.stop c.pull.new.cursors c.self.inside.piece = (λ last.
    elim c.if-cut-self.branch [
      | then-cut-self w ↦ drained-behind c.in-Some-Piece.cut.span.stop c.pull.new.cursors c.self.inside.piece next.nested
          (unended (not-true c.pull.new.looks.ended (sym w.last-is ∙ last))) w.if-cut-self.true
      | else-cut-self w ↦ absurd (w.if-cut-self.false (eqb-true c.in-Some-Piece.cut.span.stop c.self.inside.piece.span.stop (sym w.last-is ∙ last)))
    ]) in
    rw (refill-whole (length c.self.inside.cursors.items) c.self.inside.cursors.items c.pull.new.cursors same, c.after_cut-self-inside.ensures)
    (IsRunning-after_found (runner_view c.self.inside) c.pull.new.cursors c.pull.new.looks.turns c.pull.new.looks.ended c.in-Some-Piece.cut c.if-cut-self.last
    c.self.invariant unread unfound next drained unended same
    (search rules) (search rules) (search rules))
