-- A new runner has the cursors of its plan, which mean what the plan means.
use Rattle.std.proofs.Common.{◌≡◌, refl, ◌∙◌, subst}
use Rattle.std.specs.Prelude.{MatchOption}
use Rattle.tox_words.specs.Draw.{draws_of}
use Rattle.tox_plan.specs.OpCursors.{cursors_at_start, AreNested, AreRead, AreDrained, OnlyEnds, HaveEnded}
use Rattle.tox_plan.specs.RunnerView.{no_piece}
use Rattle.tox_plan.proofs.Starts.{read-at_start, nested-at_start}
use Rattle.tox_plan.proofs.FirstRunner.{IsRunning-first, IsNewRunner-first}
use Rattle.tox_plan.proofs.runner.Runner.drawing_from.Goals as goal

-- the cursors are those of the plan
cursors_are : (c : goal.After-is_some) → c.push_cursors.new.cursors.items ≡ cursors_at_start c.args.plan.ops
cursors_are c = rw (c.push_cursors.ensures.items, c.new-cursors.ensures, c.ops.ensures.value) refl

-- and are those that were asked for a known ending
asked : (c : goal.After-is_some) → c.deref.result.now ≡ cursors_at_start c.args.plan.ops
asked c = c.deref.ensures.0 ∙ cursors_are c

knows : (c : goal.After-is_some) → MatchOption c.ending_of_read-ending.result (AreDrained 0 (cursors_at_start c.args.plan.ops) no_piece)
    (OnlyEnds (draws_of c.args.drawing) 0 (cursors_at_start c.args.plan.ops) no_piece)
knows c =
    subst (λ cursors. AreNested 0 cursors no_piece → AreRead 0 cursors no_piece
    → MatchOption c.ending_of_read-ending.result (AreDrained 0 cursors no_piece) (OnlyEnds (draws_of c.args.drawing) 0 cursors no_piece))
    (asked c) (c.ending_of_read-ending.ensures.known (draws_of c.args.drawing) 0 no_piece)
    (nested-at_start c.args.plan.ops c.ops.ensures.plan.operations) (read-at_start c.args.plan.ops)

pub invariant_of-result-3 : goal.invariant_of-result-3
invariant_of-result-3 c =
    rw (c.is_some.ensures, c.first.ensures, cursors_are c)
    (IsRunning-first c.args.plan.ops c.args.drawing c.ending_of_read-ending.result c.ops.ensures.plan.operations c.ops.ensures.plan.most (knows c)
    (λ some. subst HaveEnded (asked c) (c.ending_of_read-ending.ensures.kept some)))

pub returns : goal.returns
returns c =
    rw (c.is_some.ensures, c.first.ensures, cursors_are c)
    (IsNewRunner-first c.args.plan c.args.drawing c.ending_of_read-ending.result c.requires c.ops.ensures.plan.operations (knows c))
