-- Givings whose chunks lie in the chunks that they are given for.
use Rattle.std.proofs.Common.{ℕ, zero, suc, ◌+◌, ◌-◌, ◌<◌, ◌≤◌, min, max, List, [], ◌∷◌, refl, arith}
use Rattle.std.specs.Prelude.{Any}
use Rattle.tox_time.specs.declared.streams.span.Span.{Span}
use Rattle.tox_time.specs.declared.streams.item.Item.{Item}
use Rattle.tox_time.specs.declared.streams.item.Item.TheVariants.{Chunk, Closed, Reset, Quiet}
use Rattle.tox_time.specs.declared.streams.ending.Ending.{Ending}
use Rattle.tox_time.specs.declared.streams.ending.Ending.TheVariants.{StillOpen, Closed as ClosedAt, Reset as ResetAt}
use Rattle.tox_time.specs.Time.{plus}
use Rattle.tox_time.specs.streams.Table.{final_of}
use Rattle.tox_time.specs.streams.Neighbours.{LiesInChunk}
use Rattle.tox_defs.specs.declared.operations.state.State.{State}
use Rattle.tox_defs.specs.toxics.Pieces.{cut, leave}
use Rattle.tox_defs.specs.stage.Reaction.{Giving}

-- each of these chunks lies in one of those items
abbrev pub LieWithin : List Item → List Item → Type 0
LieWithin items [] = Unit {0}
LieWithin items (Chunk span t ∷ given) = Any (LiesInChunk span) items × LieWithin items given
LieWithin items (Closed t ∷ given) = LieWithin items given
LieWithin items (Reset t ∷ given) = LieWithin items given
LieWithin items (Quiet ∷ given) = LieWithin items given

-- in the first of them
pub in_first : (span whole : Span) (t : ℕ) (items : List Item) → whole.start ≤ span.start → span.stop ≤ whole.stop
    → Any (LiesInChunk span) (Chunk whole t ∷ items)
in_first span whole t items from to = (0, Chunk whole t, omega arith, refl, (from, to))

-- what is given for a chunk lies in it
abbrev pub GivesWithin : Giving → Type 0
GivesWithin giving = (state : State) (item : Item) (items : List Item) → LieWithin (item ∷ items) (giving state item)

pub leave_within : (size wait : ℕ → ℕ) (number start left most since t : ℕ) (whole : Span) (at : ℕ) (items : List Item) → whole.start ≤ start
    → (0 < left → start + left ≤ whole.stop)
    → LieWithin (Chunk whole at ∷ items) (leave wait since t (cut size number start left most))
leave_within size wait number start zero most since t whole at items from to = tt
leave_within size wait number start (suc left) zero since t whole at items from to = tt
leave_within size wait number start (suc left) (suc most) since t whole at items from to =
    let end : start + suc left ≤ whole.stop = to (omega arith) in (
      in_first (record { start = start; stop = start + min (size number) (suc left) }) whole at items from (omega arith),
      leave_within size wait (number + 1) (start + min (size number) (suc left)) (suc left - size number) most
          (plus (max since t) (wait (start + min (size number) (suc left) - start))) t whole at items (omega arith) (λ some. omega arith),
    )

pub chunk_within : (span : Span) (t later : ℕ) (items : List Item) → LieWithin (Chunk span t ∷ items) (Chunk span later ∷ [])
chunk_within span t later items = (in_first span span t items (omega arith) (omega arith), tt)

pub final_within : (items : List Item) (ending : Ending) → LieWithin items (final_of ending ∷ [])
final_within items StillOpen = tt
final_within items (ClosedAt t) = tt
final_within items (ResetAt t) = tt

pub item_within : (item : Item) (items : List Item) → LieWithin (item ∷ items) (item ∷ [])
item_within (Chunk span t) items = chunk_within span t t items
item_within (Closed t) items = tt
item_within (Reset t) items = tt
item_within Quiet items = tt
