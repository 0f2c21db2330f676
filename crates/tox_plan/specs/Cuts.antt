-- The cuts that a slice is made of.
use Rattle.std.specs.Prelude.{◌≡◌, ◌≢◌, ◌⊎◌, ℕ, ◌+◌, ◌<◌, ◌≤◌, List, [], ◌∷◌, ◌++◌, map, length, None, false, true}
use Rattle.tox_time.specs.declared.streams.slice.Slice.{Slice}
use Rattle.tox_time.specs.declared.streams.item.Item.{Item}
use Rattle.tox_time.specs.declared.streams.item.Item.TheVariants.{Chunk, Closed, Reset, Quiet}
use Rattle.tox_defs.specs.operations.Look.{as_chunk}
use Rattle.tox_plan.specs.OpCursors.{ops_of}
use Rattle.tox_plan.specs.RunnerView.{RunnerView, HasNoChunk, to_come}

-- nonempty cuts at one instant that reach from one position to another
abbrev pub Reach : ℕ → ℕ → ℕ → List Slice → Type 0
Reach start stop instant [] = start ≡ stop
Reach start stop instant (cut ∷ cuts) =
    (cut.span.start ≡ start) × (start < cut.span.stop) × (cut.instant ≡ instant)
    × Reach cut.span.stop stop instant cuts

-- the slice lies in the piece
pub record IsWithin (piece slice : Slice) : Type 0 where
  pub from : piece.span.start ≤ slice.span.start
  pub some : slice.span.start < slice.span.stop
  pub to : slice.span.stop ≤ piece.span.stop

-- the slice lies in the offered piece, and is one or more cuts that come first in the remaining output, all at its instant
pub record IsCut (old new : RunnerView) (slice : Slice) : Type 0 where
  pub within : IsWithin old.piece slice
  pub cuts : List Slice
  pub parts : Reach slice.span.start slice.span.stop slice.instant cuts
  pub gives : (items : List Item) → to_come old items ≡ map as_chunk cuts ++ to_come new items
  pub counted : new.cuts ≡ old.cuts + length cuts

-- the slice is the next cut by itself
pub record IsOneCut (old new : RunnerView) (cut : Slice) : Type 0 where
  pub begins : cut.span.start ≡ old.position
  pub some : cut.span.start < cut.span.stop
  pub stands : new.position ≡ cut.span.stop
  pub within : IsWithin old.piece cut
  pub gives : (items : List Item) → to_come old items ≡ as_chunk cut ∷ to_come new items
  pub counted : new.cuts ≡ old.cuts + 1

-- the next chunk to come, if there is one, has bytes, and leaves at another instant
abbrev pub BeginsApart : ℕ → List Item → Type 0
BeginsApart instant [] = Unit {0}
BeginsApart instant (Chunk span t ∷ items) = (span.start < span.stop) × (t ≢ instant)
BeginsApart instant (Closed t ∷ items) = HasNoChunk items
BeginsApart instant (Reset t ∷ items) = HasNoChunk items
BeginsApart instant (Quiet ∷ items) = HasNoChunk items

-- a slice of this instant can't be longer: the piece is over, or the next chunk leaves at another instant, whatever arrives later
abbrev pub EndsHere : ℕ → RunnerView → Type 0
EndsHere instant runner =
    (runner.position ≡ runner.piece.span.stop)
    ⊎ ((items : List Item) → BeginsApart instant (to_come runner items))

-- the runner gave this slice and isn't idle; whatever else is left of the piece leaves at another instant
pub record GivesCut (old new : RunnerView) (slice : Slice) : Type 0 where
  pub cut : IsCut old new slice
  pub begins : slice.span.start ≡ old.position
  pub stands : new.position ≡ slice.span.stop
  pub busy : new.idle ≡ false
  pub apart : BeginsApart slice.instant (to_come new (Quiet ∷ []))
  pub ends : EndsHere slice.instant new

-- the runner had nothing to give: it is idle, and stands where it stood; that is at the piece's end, unless the ending is known
pub record GivesNoCut (old new : RunnerView) : Type 0 where
  pub idle : new.idle ≡ true
  pub position : new.position ≡ old.position
  pub from : old.idle ≡ false → old.piece.span.start ≤ old.position
  pub whole : new.ending ≡ None → new.position ≡ old.piece.span.stop
  pub cuts : new.cuts ≡ old.cuts
  pub same : (items : List Item) → to_come new items ≡ to_come old items

-- no cut that leaves at this instant was left to give
pub record GivesNoMore (instant : ℕ) (old new : RunnerView) : Type 0 where
  pub same : (items : List Item) → to_come new items ≡ to_come old items
  pub position : new.position ≡ old.position
  pub cuts : new.cuts ≡ old.cuts
  pub apart : BeginsApart instant (to_come new (Quiet ∷ []))
  pub ends : EndsHere instant new

-- all that was left of the offered piece was given
pub record GivesAll (old new : RunnerView) : Type 0 where
  pub idle : new.idle ≡ true
  pub piece : new.piece ≡ old.piece
  pub latest : new.latest ≡ old.latest

-- the offers, the words and the plan's operations stay
pub record KeepsOffers (old new : RunnerView) : Type 0 where
  pub drawing : new.drawing ≡ old.drawing
  pub piece : new.piece ≡ old.piece
  pub latest : new.latest ≡ old.latest
  pub finished : new.finished ≡ old.finished
  pub pieces : new.pieces ≡ old.pieces
  pub cursors : length new.cursors ≡ length old.cursors
  pub ops : ops_of new.cursors ≡ ops_of old.cursors
