-- What a list of items amounts to: an instant for each byte, and how the link ends.
use Rattle.std.specs.Prelude.{◌≡◌, ℕ, List, [], ◌∷◌, ◌++◌, replicate}
use Rattle.tox_time.specs.declared.streams.item.Item.{Item}
use Rattle.tox_time.specs.declared.streams.item.Item.TheVariants.{Chunk, Closed, Reset, Quiet}
use Rattle.tox_time.specs.declared.streams.ending.Ending.{Ending}
use Rattle.tox_time.specs.declared.streams.ending.Ending.TheVariants.{StillOpen, Closed as ClosedAt, Reset as ResetAt}
use Rattle.tox_time.specs.declared.streams.slice.Slice.{Slice}
use Rattle.tox_time.specs.declared.streams.outcome.Outcome.{Outcome}
use Rattle.tox_time.specs.streams.Stream.{span_len}

-- the instant of each position of the chunks
abbrev pub table : List Item → List ℕ
table [] = []
table (Chunk span t ∷ items) = replicate (span_len span) t ++ table items
table (Closed t ∷ items) = table items
table (Reset t ∷ items) = table items
table (Quiet ∷ items) = table items

-- the instant of each position of the slices
abbrev pub slices_table : List Slice → List ℕ
slices_table [] = []
slices_table (slice ∷ slices) = replicate (span_len slice.span) slice.instant ++ slices_table slices

-- how the final ends the link
abbrev pub ending : List Item → Ending
ending [] = StillOpen
ending (Chunk span t ∷ items) = ending items
ending (Closed t ∷ items) = ClosedAt t
ending (Reset t ∷ items) = ResetAt t
ending (Quiet ∷ items) = StillOpen

-- an ending as the final that it is the ending of
abbrev pub final_of : Ending → Item
final_of StillOpen = Quiet
final_of (ClosedAt t) = Closed t
final_of (ResetAt t) = Reset t

-- equal tables and equal endings: where chunks are cut doesn't matter
pub record SameResult (xs ys : List Item) : Type 0 where
  pub tables : table xs ≡ table ys
  pub endings : ending xs ≡ ending ys

-- the outcome has the table and the ending of the items
pub record IsOutcomeOf (items : List Item) (outcome : Outcome) : Type 0 where
  pub tables : slices_table outcome.slices ≡ table items
  pub endings : outcome.ending ≡ ending items
