-- The last cursor passes on first, and the others what it gave.
use Rattle.std.proofs.Common.{rules, ◌≡◌, [], ◌∷◌, ◌++◌, append_assoc, ap, sym, subst, ◌∙◌}
use Rattle.tox_words.specs.Draw.{draws_of}
use Rattle.tox_plan.specs.OpCursors.{MatchPulled, ops_of}
use Rattle.tox_plan.proofs.CursorLemmas.{ops_of-append}
use Rattle.tox_plan.proofs.pulling.+pass.Goals as goal

pub returns-in-Some-clause-pulled : goal.returns-in-Some-clause-pulled
returns-in-Some-clause-pulled t c =
    λ source old new pulled.
    let is : c.args.cursors.now ≡ c.in-Some.downstream.now ++ c.in-Some.cursor.now ∷ [] = search rules in
    let passed : MatchPulled (draws_of c.args.drawing.now) c.args.start (c.in-Some.downstream.now ++ c.in-Some.cursor.now ∷ old)
    (c.pass.new.cursors ++ c.pass_one.new.cursor ∷ new) source c.pass.new.pulled
    = c.pass.ensures.pulled source (c.in-Some.cursor.now ∷ old) (c.pass_one.new.cursor ∷ new) (c.pass_one.ensures.pulled source old new pulled) in
    subst (λ cursors. MatchPulled (draws_of c.args.drawing.now) c.args.start cursors ((c.pass.new.cursors ++ c.pass_one.new.cursor ∷ []) ++ new) source
    c.pass.new.pulled)
    (sym (append_assoc c.in-Some.downstream.now (c.in-Some.cursor.now ∷ []) old) ∙ ap (λ cursors. cursors ++ old) (sym is))
    (subst (λ cursors. MatchPulled (draws_of c.args.drawing.now) c.args.start (c.in-Some.downstream.now ++ c.in-Some.cursor.now ∷ old) cursors source
    c.pass.new.pulled)
    (sym (append_assoc c.pass.new.cursors (c.pass_one.new.cursor ∷ []) new)) passed)

pub returns-in-Some-clause-ops : goal.returns-in-Some-clause-ops
returns-in-Some-clause-ops t c =
    let is : c.args.cursors.now ≡ c.in-Some.downstream.now ++ c.in-Some.cursor.now ∷ [] = search rules in
    ops_of-append c.pass.new.cursors (c.pass_one.new.cursor ∷ [])
    ∙ ap (λ op. op ∷ ops_of c.pass.new.cursors) c.pass_one.ensures.op
    ∙ ap (λ ops. c.in-Some.cursor.now.op ∷ ops) c.pass.ensures.ops
    ∙ sym (ops_of-append c.in-Some.downstream.now (c.in-Some.cursor.now ∷ []))
    ∙ ap ops_of (sym is)
