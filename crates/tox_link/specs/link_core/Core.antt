-- A link core as a value, and its remaining output.
use Rattle.std.specs.Prelude.{◌≡◌, ℕ, ◌+◌, ◌≤◌, Bool, true, if◌then◌else◌, List, [], ◌∷◌, ◌++◌, length, map, replicate, slice_get, Option, Some, None, IsSome}
use Rattle.std.specs.List.{sum}
use Rattle.tox_time.specs.declared.streams.slice.Slice.{Slice}
use Rattle.tox_time.specs.declared.streams.item.Item.{Item}
use Rattle.tox_time.specs.declared.streams.item.Item.TheVariants.{Chunk, Closed, Quiet}
use Rattle.tox_time.specs.declared.streams.ending.Ending.{Ending}
use Rattle.tox_time.specs.streams.Stream.{IsStreamFrom, span_len}
use Rattle.tox_time.specs.streams.Table.{SameResult, table, ending}
use Rattle.tox_compile.specs.Meaning.{deadline_of}
use Rattle.tox_plan.specs.OpCursors.{ops_of}
use Rattle.tox_plan.specs.Cuts.{IsWithin, BeginsApart}
use Rattle.tox_plan.specs.RunnerView.{RunnerView, HasNoChunk, found_chunk, to_come, known_ending}
use Rattle.tox_plan.specs.Unended.{IsUnended}
use Rattle.tox_link.specs.declared.link_core.waiting.WaitingPiece.{WaitingPiece}

-- what a link core is seen as
pub record CoreView : Type 0 where
  -- the runner; while it isn't idle, a piece is with it
  pub runner : RunnerView
  -- the kept pieces behind that one
  pub waiting : List WaitingPiece
  -- the next slice, if it is found
  pub found : Option Slice
  -- the source's end, while pieces are kept, and whether the source has ended
  pub end : Option ℕ
  pub ended : Bool
  -- how many bytes have arrived, and the last instant
  pub bytes : ℕ
  pub latest : ℕ
  -- how many pieces it has room for
  pub room : ℕ

-- how many pieces are kept
abbrev pub kept_count : CoreView → ℕ
kept_count core = length core.waiting + (if core.runner.idle then 0 else 1)

-- the lengths of the kept pieces, and where the first of them starts
abbrev pub kept_lens : CoreView → List ℕ
kept_lens core = (if core.runner.idle then [] else span_len core.runner.piece.span ∷ []) ++ map (λ piece. piece.len) core.waiting

abbrev pub kept_start : CoreView → ℕ
kept_start core = if core.runner.idle then core.runner.piece.span.stop else core.runner.piece.span.start

-- the waiting pieces as chunks from a position on, then these items
abbrev pub arrivals_from : ℕ → List WaitingPiece → List Item → List Item
arrivals_from start [] items = items
arrivals_from start (piece ∷ pieces) items =
    Chunk (record { start = start; stop = start + piece.len }) piece.instant ∷ arrivals_from (start + piece.len) pieces items

-- the source's end, if it is kept, or else later items
abbrev pub end_or : Option ℕ → List Item → List Item
end_or None items = items
end_or (Some t) items = Closed t ∷ []

-- the remaining output, if these items follow what has arrived
abbrev pub remaining_output : CoreView → List Item → List Item
remaining_output core items =
    found_chunk core.found ++ to_come core.runner (arrivals_from core.runner.piece.span.stop core.waiting (end_or core.end items))

-- the ending, where no piece waits
abbrev pub ending_behind : List WaitingPiece → Option Ending → Option Ending
ending_behind [] ending = ending
ending_behind (piece ∷ pieces) ending = None

-- the ending that a core knows: that of its runner, once no piece is kept
abbrev pub core_ending : CoreView → Option Ending
core_ending core = ending_behind core.waiting (known_ending core.runner)

-- where the next slice starts
abbrev pub next_start : Option Slice → ℕ → ℕ
next_start None position = position
next_start (Some slice) position = slice.span.start

abbrev pub core_position : CoreView → ℕ
core_position core = next_start core.found core.runner.position

-- the plan's deadline
abbrev pub core_deadline : CoreView → Option ℕ
core_deadline core = deadline_of (ops_of core.runner.cursors)

-- the instant of the first byte of a list, if it has one
abbrev pub next_instant : List Item → Option ℕ
next_instant items = slice_get (table items) 0

-- the slice is the front of the remaining output, whatever comes, and all that is left of its piece at its instant
pub record TakesSlice (old new : CoreView) (slice : Slice) : Type 0 where
  pub tables : (items : List Item) → table (remaining_output old items) ≡ replicate (span_len slice.span) slice.instant ++ table (remaining_output new items)
  pub endings : (items : List Item) → ending (remaining_output old items) ≡ ending (remaining_output new items)
  pub starts : slice.span.start ≡ core_position old
  pub stops : core_position new ≡ slice.span.stop
  pub within : IsWithin new.runner.piece slice
  pub arrived : slice.span.stop ≤ new.bytes
  pub apart : BeginsApart slice.instant (to_come new.runner (Quiet ∷ []))

-- the remaining output is the same, whatever comes from an instant on
pub record LeavesOutput (old new : CoreView) (now : ℕ) : Type 0 where
  pub output : (position since : ℕ) (items : List Item) → now ≤ since → IsStreamFrom position since items
      → SameResult (remaining_output new items) (remaining_output old items)
  pub position : core_position new ≡ core_position old

-- only the first kept pieces are given up, and of those no byte is still to be given
pub record GivesUp (old new : CoreView) : Type 0 where
  pub first : List ℕ
  pub lens : kept_lens old ≡ first ++ kept_lens new
  pub start : kept_start old + sum first ≡ kept_start new
  pub before : kept_start old ≤ core_position old → kept_start new ≤ core_position new

-- only the front of the waiting pieces is dropped, no piece that waits is added, and the cuts are counted on
pub record KeepsCore (old new : CoreView) : Type 0 where
  pub drawing : new.runner.drawing ≡ old.runner.drawing
  pub ops : ops_of new.runner.cursors ≡ ops_of old.runner.cursors
  pub ended : new.ended ≡ old.ended
  pub bytes : new.bytes ≡ old.bytes
  pub waiting : (dropped : List WaitingPiece) × (old.waiting ≡ dropped ++ new.waiting)
  pub count : kept_count new ≤ kept_count old
  pub cuts : old.runner.cuts ≤ new.runner.cuts
  pub ending : (last : Ending) → core_ending old ≡ Some last → core_ending new ≡ Some last

-- a look for the next slice: the remaining output is the same, and pieces are only dropped
pub record Looked (old new : CoreView) : Type 0 where
  pub output : (items : List Item) → SameResult (remaining_output new items) (remaining_output old items)
  pub position : core_position new ≡ core_position old
  pub drawing : new.runner.drawing ≡ old.runner.drawing
  pub ops : ops_of new.runner.cursors ≡ ops_of old.runner.cursors
  pub end : new.end ≡ old.end
  pub ended : new.ended ≡ old.ended
  pub bytes : new.bytes ≡ old.bytes
  pub latest : new.latest ≡ old.latest
  pub waiting : (dropped : List WaitingPiece) × (old.waiting ≡ dropped ++ new.waiting)
  pub count : kept_count new ≤ kept_count old
  pub cuts : old.runner.cuts ≤ new.runner.cuts
  pub finished : new.runner.finished ≡ old.runner.finished
  pub unknown : known_ending new.runner ≡ None → known_ending old.runner ≡ None
  pub given_up : known_ending new.runner ≡ None → GivesUp old new

-- where no slice is found, the runner is idle and has none
pub record IsDrained (core : CoreView) : Type 0 where
  pub idle : core.runner.idle ≡ true
  pub none : HasNoChunk (to_come core.runner (Quiet ∷ []))

-- no slice is left, and no piece is kept
pub record IsEmptied (core : CoreView) : Type 0 where
  pub found : core.found ≡ None
  pub waiting : core.waiting ≡ []
  pub drained : IsDrained core

-- an emptied core at work on its ending
pub record Settled (old new : CoreView) (now : ℕ) : Type 0 where
  pub leaves : LeavesOutput old new now
  pub emptied : IsEmptied new
  pub drawing : new.runner.drawing ≡ old.runner.drawing
  pub piece : new.runner.piece ≡ old.runner.piece
  pub ops : ops_of new.runner.cursors ≡ ops_of old.runner.cursors
  pub ended : new.ended ≡ old.ended
  pub bytes : new.bytes ≡ old.bytes
  pub latest : new.latest ≡ old.latest
  pub cuts : new.runner.cuts ≡ old.runner.cuts
  pub known : (last : Ending) → core_ending old ≡ Some last → core_ending new ≡ Some last
  pub reported : old.ended ≡ true → IsSome (core_ending new)
  pub overdue : (d : ℕ) → core_deadline old ≡ Some d → d ≤ now → IsSome (core_ending new)
  pub unended : core_ending new ≡ None → IsUnended (ops_of new.runner.cursors) (remaining_output new) now

-- an emptied core whose runner has heard of the source's end, if there is one
pub record HandsOnEnd (old new : CoreView) : Type 0 where
  pub output : (items : List Item) → remaining_output new items ≡ remaining_output old items
  pub position : core_position new ≡ core_position old
  pub emptied : IsEmptied new
  pub end : new.end ≡ None
  pub drawing : new.runner.drawing ≡ old.runner.drawing
  pub piece : new.runner.piece ≡ old.runner.piece
  pub ops : ops_of new.runner.cursors ≡ ops_of old.runner.cursors
  pub ended : new.ended ≡ old.ended
  pub bytes : new.bytes ≡ old.bytes
  pub latest : new.latest ≡ old.latest
  pub cuts : new.runner.cuts ≡ old.runner.cuts
  pub known : (last : Ending) → core_ending old ≡ Some last → core_ending new ≡ Some last
