-- Streams: chunks in order, without gaps, at instants that never fall; then one final.
use Rattle.std.specs.Prelude.{◌≡◌, ℕ, ◌+◌, ◌-◌, ◌<◌, ◌≤◌, Bool, true, false, List, [], ◌∷◌, ◌++◌}
use Rattle.tox_time.specs.declared.streams.span.Span.{Span}
use Rattle.tox_time.specs.declared.streams.item.Item.{Item}
use Rattle.tox_time.specs.declared.streams.item.Item.TheVariants.{Chunk, Closed, Reset, Quiet}
use Rattle.tox_time.specs.Time.{IsInstant}

-- the number of bytes of a span
abbrev pub span_len : Span → ℕ
span_len span = span.stop - span.start

-- chunks from a position on, at instants not below `since`, then one final, whose instant is not below the last chunk's
abbrev pub IsStreamFrom : ℕ → ℕ → List Item → Type 0
IsStreamFrom position since [] = ⊥
IsStreamFrom position since (Chunk span t ∷ items) =
    (span.start ≡ position) × (position < span.stop) × (since ≤ t) × (IsInstant t)
    × IsStreamFrom span.stop t items
IsStreamFrom position since (Closed t ∷ items) = (since ≤ t) × (IsInstant t) × (items ≡ [])
IsStreamFrom position since (Reset t ∷ items) = (since ≤ t) × (IsInstant t) × (items ≡ [])
IsStreamFrom position since (Quiet ∷ items) = items ≡ []

-- a stream from a link's start
abbrev pub IsStream : List Item → Type 0
IsStream items = IsStreamFrom 0 0 items

-- some item is a reset
abbrev pub HasReset : List Item → Type 0
HasReset [] = ⊥
HasReset (Chunk span t ∷ items) = HasReset items
HasReset (Closed t ∷ items) = HasReset items
HasReset (Reset t ∷ items) = Unit {0}
HasReset (Quiet ∷ items) = HasReset items

-- an arrival list: a stream that ends in `Closed` or `Quiet`
abbrev pub IsArrivalList : List Item → Type 0
IsArrivalList items = IsStream items × (¬ HasReset items)

-- how many bytes the chunks have
abbrev pub arrived : List Item → ℕ
arrived [] = 0
arrived (Chunk span t ∷ items) = span_len span + arrived items
arrived (Closed t ∷ items) = arrived items
arrived (Reset t ∷ items) = arrived items
arrived (Quiet ∷ items) = arrived items

-- the instant of the last item that has one, or `since` where none has
abbrev pub latest_from : ℕ → List Item → ℕ
latest_from since [] = since
latest_from since (Chunk span t ∷ items) = latest_from t items
latest_from since (Closed t ∷ items) = latest_from t items
latest_from since (Reset t ∷ items) = latest_from t items
latest_from since (Quiet ∷ items) = latest_from since items

-- the instant of the last item that has one, from a link's start
abbrev pub latest : List Item → ℕ
latest items = latest_from 0 items

-- whether an item is a final
abbrev pub is_final : Item → Bool
is_final (Chunk span t) = false
is_final (Closed t) = true
is_final (Reset t) = true
is_final Quiet = true

-- whether a list has a final
abbrev pub has_final : List Item → Bool
has_final [] = false
has_final (Chunk span t ∷ items) = has_final items
has_final (Closed t ∷ items) = true
has_final (Reset t ∷ items) = true
has_final (Quiet ∷ items) = true

-- a list's first items, for some number of them
abbrev pub IsPrefix : {X : Type 0} → List X → List X → Type 0
IsPrefix {X} xs ys = (rest : List X) × (xs ++ rest ≡ ys)
