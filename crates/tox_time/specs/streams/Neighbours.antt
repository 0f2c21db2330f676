-- Slices that go on without gaps, each within one arrival.
use Rattle.std.specs.Prelude.{◌≡◌, ℕ, ◌<◌, ◌≤◌, List, [], ◌∷◌, Any}
use Rattle.tox_time.specs.declared.streams.item.Item.{Item}
use Rattle.tox_time.specs.declared.streams.item.Item.TheVariants.{Chunk, Closed, Reset, Quiet}
use Rattle.tox_time.specs.declared.streams.span.Span.{Span}
use Rattle.tox_time.specs.declared.streams.slice.Slice.{Slice}

-- the span lies in this chunk
abbrev pub LiesInChunk : Span → Item → Type 0
LiesInChunk span (Chunk whole t) = (whole.start ≤ span.start) × (span.stop ≤ whole.stop)
LiesInChunk span (Closed t) = ⊥
LiesInChunk span (Reset t) = ⊥
LiesInChunk span Quiet = ⊥

-- nonempty slices that go on from a position, each within one arrival of the list
abbrev pub AreNeighbours : List Item → ℕ → List Slice → Type 0
AreNeighbours items position [] = Unit {0}
AreNeighbours items position (slice ∷ slices) =
    (slice.span.start ≡ position) × (position < slice.span.stop)
    × (Any (LiesInChunk slice.span) items) × AreNeighbours items slice.span.stop slices
