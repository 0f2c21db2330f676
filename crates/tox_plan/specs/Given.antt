-- What a runner has given so far, beside its plan's meaning.
use Rattle.std.specs.Prelude.{◌≡◌, ℕ, ◌<◌, List, [], ◌∷◌, ◌++◌, Option, IfSome, IfNone, MatchOption}
use Rattle.tox_time.specs.declared.streams.slice.Slice.{Slice}
use Rattle.tox_time.specs.declared.streams.item.Item.{Item}
use Rattle.tox_time.specs.declared.streams.item.Item.TheVariants.{Quiet}
use Rattle.tox_time.specs.streams.Stream.{IsStream, IsPrefix}
use Rattle.tox_time.specs.streams.Table.{table, slices_table, ending}
use Rattle.tox_compile.specs.Meaning.{Ops, IsPlan, means}
use Rattle.tox_plan.specs.RunnerView.{RunnerView, to_come}

-- the slices that were given of the offered pieces, and what is still to come, are the plan's meaning, whatever comes later
pub record HasGiven (plan : Ops) (offered : List Item) (given : List Slice)
    (runner : RunnerView) : Type 0 where
  pub tables : (items : List Item) → IsStream (offered ++ items)
      → slices_table given ++ table (to_come runner items)
      ≡ table (means plan runner.drawing.words (offered ++ items))
  pub endings : (items : List Item) → IsStream (offered ++ items)
      → ending (to_come runner items) ≡ ending (means plan runner.drawing.words (offered ++ items))

-- a call that took these pieces and gave these slices
abbrev pub GoesOn : RunnerView → List Item → List Slice → RunnerView → Type 0
GoesOn old pieces slices new =
    (plan : Ops) (offered : List Item) (given : List Slice) → HasGiven plan offered given old
    → HasGiven plan (offered ++ pieces) (given ++ slices) new

-- no later piece and no final takes back what was given
abbrev pub IsLasting : Ops → List ℕ → List Item → List Slice → Type 0
IsLasting plan words offered given =
    (items : List Item) → IsStream (offered ++ items)
    → IsPrefix (slices_table given) (table (means plan words (offered ++ items)))

-- no byte of these instants leaves as early as that
abbrev pub AreAfter : ℕ → List ℕ → Type 0
AreAfter instant [] = Unit {0}
AreAfter instant (t ∷ ts) = (instant < t) × AreAfter instant ts

-- all that the offered pieces bring was given
abbrev pub IsWhole : Ops → List ℕ → List Item → List Slice → Type 0
IsWhole plan words offered given =
    IsStream (offered ++ Quiet ∷ [])
    → slices_table given ≡ table (means plan words (offered ++ Quiet ∷ []))

-- what was given of the plan's meaning goes on with a call's result, and lasts: what is left of a piece behind a slice leaves later,
-- and where no slice is left all that the offered pieces bring was given
pub record GivesMeaning (old new : RunnerView) (result : Option Slice) : Type 0 where
  pub goes_on : MatchOption result (GoesOn old [] [] new) (λ slice. GoesOn old [] (slice ∷ []) new)
  pub lasting : (plan : Ops) (offered : List Item) (given : List Slice)
      → HasGiven plan offered given new → IsLasting plan new.drawing.words offered given
  pub later : IfSome result
      (λ slice. (plan : Ops) (offered : List Item) (given : List Slice) → IsPlan plan
      → IsStream (offered ++ Quiet ∷ []) → HasGiven plan offered given old
      → AreAfter slice.instant (table (to_come new (Quiet ∷ []))))
  pub whole : IfNone result
      ((plan : Ops) (offered : List Item) (given : List Slice) → HasGiven plan offered given old
      → IsWhole plan old.drawing.words offered given)
