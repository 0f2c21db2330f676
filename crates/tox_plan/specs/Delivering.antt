-- A runner on its way through a list of arrivals.
use Rattle.std.specs.Prelude.{◌≡◌, ℕ, ◌<◌, ◌≤◌, ◌^◌, List, [], ◌∷◌, ◌++◌, None}
use Rattle.tox_time.specs.declared.streams.slice.Slice.{Slice}
use Rattle.tox_time.specs.declared.streams.item.Item.{Item}
use Rattle.tox_time.specs.declared.streams.item.Item.TheVariants.{Chunk, Closed, Reset, Quiet}
use Rattle.tox_time.specs.streams.Neighbours.{AreNeighbours}
use Rattle.tox_time.specs.streams.Table.{table, slices_table, ending}
use Rattle.tox_plan.specs.RunnerView.{RunnerView, to_come}

-- the item may come after this piece
abbrev pub MayFollow : Slice → Item → Type 0
MayFollow piece (Chunk span t) =
    (span.start ≡ piece.span.stop) × (span.start < span.stop) × (span.stop ≤ 2 ^ 40)
    × (piece.instant ≤ t)
MayFollow piece (Closed t) = piece.instant ≤ t
MayFollow piece (Reset t) = ⊥
MayFollow piece Quiet = Unit {0}

-- nothing comes after a final
abbrev pub EndsAt : Item → List Item → Type 0
EndsAt (Chunk span t) items = Unit {0}
EndsAt (Closed t) items = items ≡ []
EndsAt (Reset t) items = items ≡ []
EndsAt Quiet items = items ≡ []

-- the runner stands at this piece
abbrev pub StandsAt : RunnerView → Slice → Type 0
StandsAt runner piece = (runner.piece ≡ piece) × (runner.latest ≡ piece.instant)

-- the runner stands at the item, as far as the item is a chunk
abbrev pub StandsBehind : RunnerView → Item → Type 0
StandsBehind runner (Chunk span t) = StandsAt runner (record { span = span; instant = t })
StandsBehind runner (Closed t) = ⊥
StandsBehind runner (Reset t) = Unit {0}
StandsBehind runner Quiet = ⊥

-- the item may come after the piece that was offered last, at which the runner stands unless its ending is known
pub record IsNextFor (runner : RunnerView) (item : Item) : Type 0 where
  pub last : Slice
  pub follows : MayFollow last item
  pub latest : runner.latest ≤ last.instant
  pub stands : runner.ending ≡ None → StandsAt runner last

-- slices that were given, and what is then still to come, come to the same as before
pub record PreservesOutput (old : RunnerView) (given : List Slice) (olds : List Item)
    (new : RunnerView) (more : List Slice) (news : List Item) : Type 0 where
  pub tables : slices_table given ++ table (to_come old olds)
      ≡ slices_table more ++ table (to_come new news)
  pub endings : ending (to_come old olds) ≡ ending (to_come new news)

-- where the last slice stops
abbrev pub stop_from : ℕ → List Slice → ℕ
stop_from position [] = position
stop_from position (slice ∷ slices) = stop_from slice.span.stop slices

-- these slices lie in the items one behind another, and the last stops at a position
pub record LeadTo (items : List Item) (slices : List Slice) (position : ℕ) : Type 0 where
  pub neighbours : AreNeighbours items 0 slices
  pub stop : stop_from 0 slices ≡ position
