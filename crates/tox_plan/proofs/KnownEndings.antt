-- Where the ending of a runner is known.
use Rattle.std.proofs.Common.{◌≡◌, ◌≢◌, true, [], ◌∷◌, Option, Some, None, refl, ◌∙◌, sym, ◌⊎◌, inl, inr}
use Rattle.std.specs.Prelude.{IsSome}
use Rattle.tox_time.specs.declared.streams.ending.Ending.{Ending}
use Rattle.tox_time.specs.streams.Table.{final_of}
use Rattle.tox_words.specs.Draw.{draws_of}
use Rattle.tox_plan.specs.RunnerView.{RunnerView, IsRunning, to_come}
use Rattle.tox_plan.proofs.CursorLemmas.{drained-silent}
use Rattle.tox_plan.proofs.RunnerOutput.{to_come-unfound, to_come-ended, idle-unfound, idle-drained}

-- the ending is known exactly where the source has ended, or something is to come though nothing more arrives
pub ended_exactly : (runner : RunnerView) → IsRunning runner → runner.idle ≡ true
    → (IsSome runner.ending → (runner.idle ≡ true) × ((runner.finished ≡ true) ⊎ (to_come runner [] ≢ [])))
    × ((runner.idle ≡ true) × ((runner.finished ≡ true) ⊎ (to_come runner [] ≢ [])) → IsSome runner.ending)
ended_exactly runner invariant idle = (λ some. (idle, inr (ends runner.ending refl some)), λ ended. from runner.ending refl ended.1)
  where
    ends : (ending : Option Ending) → runner.ending ≡ ending → IsSome ending → to_come runner [] ≢ []
    ends (Some ending) is some silent = let both : final_of ending ∷ [] ≡ [] = sym (to_come-ended runner ending [] is) ∙ silent in absurd (cc)
    ends None is some silent = absurd (cc)

    from : (ending : Option Ending) → runner.ending ≡ ending → (runner.finished ≡ true) ⊎ (to_come runner [] ≢ []) → IsSome runner.ending
    from (Some ending) is cause = rw is refl
    from None is (inl reported) = invariant.reported reported
    from None is (inr comes) =
        absurd (comes (to_come-unfound runner [] is (idle-unfound runner invariant idle)
        ∙ drained-silent (draws_of runner.drawing) runner.position runner.cursors runner.piece (idle-drained runner invariant idle is)))
