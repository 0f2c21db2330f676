-- By when every stream under a plan has ended.
use Rattle.std.specs.Prelude.{ℕ, ◌≤◌, All, List, [], ◌∷◌, Option, Some, None}
use Rattle.tox_time.specs.declared.streams.item.Item.{Item}
use Rattle.tox_time.specs.declared.streams.item.Item.TheVariants.{Chunk, Closed, Reset, Quiet}
use Rattle.tox_time.specs.Time.{IsInstant}
use Rattle.tox_time.specs.streams.Stream.{IsStream}
use Rattle.tox_words.specs.Draw.{Draws}
use Rattle.tox_words.specs.declared.lanes.Lanes.{Lanes}
use Rattle.tox_defs.specs.declared.operations.op.Op.{Op}
use Rattle.tox_defs.specs.operations.Op.{IsOp, op_reaction}
use Rattle.tox_defs.specs.stage.Reaction.{flow}
use Rattle.tox_compile.specs.Meaning.{means}

-- the item leaves by an instant; `Quiet` never does
abbrev pub LeavesBy : ℕ → Item → Type 0
LeavesBy due (Chunk span t) = t ≤ due
LeavesBy due (Closed t) = t ≤ due
LeavesBy due (Reset t) = t ≤ due
LeavesBy due Quiet = ⊥

-- a fact of each chunk and of the final behind them, which is there
abbrev pub EachToFinal : (Item → Type 0) → List Item → Type 0
EachToFinal P [] = ⊥
EachToFinal P (Chunk span t ∷ items) = P (Chunk span t) × EachToFinal P items
EachToFinal P (Closed t ∷ items) = P (Closed t)
EachToFinal P (Reset t ∷ items) = P (Reset t)
EachToFinal P (Quiet ∷ items) = P Quiet

-- every byte has left by an instant, and the stream is closed or reset by then
abbrev pub EndsBy : ℕ → List Item → Type 0
EndsBy due items = EachToFinal (LeavesBy due) items

-- the stream ends by the instant, if there is one
abbrev pub MayEndBy : Option ℕ → List Item → Type 0
MayEndBy None items = Unit {0}
MayEndBy (Some due) items = IsInstant due × EndsBy due items

-- what ends by the one instant before an operation ends by the other behind it, whatever is drawn
abbrev pub EndsBehind : Op → Option ℕ → Option ℕ → Type 0
EndsBehind op before after =
    (draws : Draws) (items : List Item) → IsStream items → MayEndBy before items
    → MayEndBy after (flow (op_reaction op draws) items)

-- by the instant, if there is one, every stream under a plan of these operations has ended
abbrev pub EndsEachStream : List Op → Option ℕ → Type 0
EndsEachStream ops due =
    (lanes : Lanes) (words : List ℕ) (items : List Item) → All IsOp ops → IsStream items
    → MayEndBy due (means (record { lanes = lanes; ops = ops }) words items)
