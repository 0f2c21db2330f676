-- The slices of an outcome that are left to print.
use Rattle.std.specs.Prelude.{◌≡◌, ◌≢◌, ◌⊎◌, ℕ, ◌+◌, ◌<◌, ◌≤◌, List, [], ◌∷◌, ◌++◌, map, replicate}
use Rattle.std.specs.List.{enumerate_from}
use Rattle.tox_time.specs.declared.streams.ending.Ending.{Ending}
use Rattle.tox_time.specs.declared.streams.item.Item.{Item}
use Rattle.tox_time.specs.declared.streams.slice.Slice.{Slice}
use Rattle.tox_time.specs.streams.Arrivals.{arrival_list}
use Rattle.tox_time.specs.streams.Neighbours.{AreNeighbours}
use Rattle.tox_time.specs.streams.Stream.{IsStream, arrived as count_of, span_len}
use Rattle.tox_time.specs.streams.Table.{slices_table}
use Rattle.tox_text.specs.arrivals.ArrivalsText.{Arrived}
use Rattle.tox_text.specs.ResultText.{delivered_at, ending_line, lines_text}
use Rattle.tox_runs.specs.runs.SecondPass.{IsEdge}

-- the result text of slices from a position on
abbrev pub pending_text : Arrived → ℕ → List Slice → Ending → List ℕ
pending_text arrived position slices ending =
    lines_text (map
    (λ place. delivered_at arrived place.0 place.1)
    (enumerate_from position (slices_table slices))) ++ ending_line ending

-- the slices that are left are neighbours within the arrivals; they start where the next item does, unless there is none
pub record IsPending (slices : List Slice) (start : ℕ) (arrived : Arrived) (position : ℕ)
    (items : List Item) : Type 0 where
  pub neighbours : AreNeighbours (arrival_list arrived.items) start slices
  pub stream : IsStream (arrival_list arrived.items)
  pub here : (slices ≡ []) ⊎ (start ≡ position)
  pub counted : position + count_of items ≡ count_of arrived.items

-- no slice starts before a position
abbrev pub StartsBehind : ℕ → List Slice → Type 0
StartsBehind stop [] = Unit {0}
StartsBehind stop (next ∷ slices) = stop ≤ next.span.start

-- the next slice doesn't start before a position, or it leaves at another instant
abbrev pub IsApart : ℕ → ℕ → List Slice → Type 0
IsApart stop t [] = Unit {0}
IsApart stop t (next ∷ slices) = (stop ≤ next.span.start) ⊎ (next.instant ≢ t)

-- some slices from the front that end by a position, as one slice, and the others
pub record JoinsTo (stop : ℕ) (items : List Item) (position : ℕ) (old : List Slice) (slice : Slice)
    (new : List Slice) : Type 0 where
  pub starts : slice.span.start ≡ position
  pub some : position < slice.span.stop
  pub within : slice.span.stop ≤ stop
  pub tables : slices_table old ≡ replicate (span_len slice.span) slice.instant ++ slices_table new
  pub neighbours : AreNeighbours items slice.span.stop new

-- all slices from the front that start before an edge of the arrivals and leave at one instant, as one slice, and the others
pub record IsJoined (stop : ℕ) (old : List Slice) (slice : Slice) (new : List Slice) : Type 0 where
  pub joins : (items : List Item) (position : ℕ) → AreNeighbours items position old
      → IsEdge items stop → JoinsTo stop items position old slice new
  pub apart : IsApart stop slice.instant new
