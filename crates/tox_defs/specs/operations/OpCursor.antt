-- An operation at work, and what is still to come from it.
use Rattle.std.specs.Prelude.{◌≡◌, ℕ, ◌^◌, ◌<◌, ◌≤◌, true, false, List, [], ◌∷◌, ◌++◌, Option, None, Some}
use Rattle.tox_time.specs.declared.streams.item.Item.{Item}
use Rattle.tox_time.specs.declared.streams.slice.Slice.{Slice}
use Rattle.tox_time.specs.declared.streams.ending.Ending.{Ending}
use Rattle.tox_time.specs.streams.Table.{final_of}
use Rattle.tox_words.specs.Draw.{Draws}
use Rattle.tox_defs.specs.declared.operations.state.State.{State}
use Rattle.tox_defs.specs.declared.operations.op.Op.{Op}
use Rattle.tox_defs.specs.declared.operations.op_cursor.OpCursor.{OpCursor}
use Rattle.tox_defs.specs.declared.operations.op_cursor.Emission.{Emission}
use Rattle.tox_defs.specs.declared.operations.op_cursor.Emission.TheVariants.{Piece, End}
use Rattle.tox_defs.specs.stage.Reaction.{first_state, flow_from, state_from}
use Rattle.tox_defs.specs.operations.Op.{IsOp, op_reaction}
use Rattle.tox_defs.specs.operations.Look.{as_chunk, rest_of}

-- the cursor of an operation that was given nothing yet
abbrev pub first_cursor : Op → OpCursor
first_cursor op = record { op = op; state = first_state; stop = 0; instant = 0; ending = None }

-- an ending that is known, and else these items
abbrev pub ending_or : Option Ending → List Item → List Item
ending_or None items = items
ending_or (Some ending) items = final_of ending ∷ []

-- the state where an ending is known, and else this one
abbrev pub ended_or : Option Ending → State → State → State
ended_or None ended state = state
ended_or (Some ending) ended state = ended

-- what a cursor gives, if these items come after its present chunk, of which the bytes from `start` on are unread
abbrev pub cursor_gives : Draws → ℕ → OpCursor → List Item → List Item
cursor_gives draws start cursor items =
    ending_or cursor.ending
    (flow_from (op_reaction cursor.op draws) cursor.state
    (rest_of start cursor.stop cursor.instant ++ items))

-- the state that its present chunk will leave
abbrev pub cursor_leaves : Draws → ℕ → OpCursor → State
cursor_leaves draws start cursor =
    ended_or cursor.ending cursor.state
    (state_from (op_reaction cursor.op draws) cursor.state
    (rest_of start cursor.stop cursor.instant))

-- a cursor whose reader stands at `start`: each chunk, piece and byte of its state was read
pub record IsSoundCursor (start : ℕ) (cursor : OpCursor) : Type 0 where
  pub within : start ≤ cursor.stop
  pub few : cursor.stop ≤ 2 ^ 40
  pub chunks : cursor.state.chunks ≤ start
  pub pieces : cursor.state.pieces ≤ start
  pub passed : cursor.state.passed ≤ start
  pub running : cursor.ending ≡ None → cursor.state.done ≡ false
  pub operation : IsOp cursor.op

-- the piece is the next of what the cursor gives
pub record IsNextPiece (draws : Draws) (start : ℕ) (old new : OpCursor) (piece : Slice) : Type 0 where
  pub begins : piece.span.start ≡ start
  pub some : start < piece.span.stop
  pub within : piece.span.stop ≤ old.stop
  pub op : new.op ≡ old.op
  pub stop : new.stop ≡ old.stop
  pub instant : new.instant ≡ old.instant
  pub sound : IsSoundCursor piece.span.stop new
  pub gives : (items : List Item)
      → cursor_gives draws start old items
      ≡ as_chunk piece ∷ cursor_gives draws piece.span.stop new items
  pub leaves : cursor_leaves draws start old ≡ cursor_leaves draws piece.span.stop new

-- the cursor gives its ending and nothing else
pub record GivesOnlyEnding (draws : Draws) (start : ℕ) (old new : OpCursor) (ending : Ending) : Type 0 where
  pub op : new.op ≡ old.op
  pub stop : new.stop ≡ old.stop
  pub instant : new.instant ≡ old.instant
  pub ended : new.ending ≡ Some ending
  pub done : new.state.done ≡ true
  pub gives : (items : List Item) → cursor_gives draws start old items ≡ final_of ending ∷ []
  pub leaves : cursor_leaves draws start old ≡ new.state

-- what an advance brought
abbrev pub MatchEmission : Draws → ℕ → OpCursor → OpCursor → Emission → Type 0
MatchEmission draws start old new (Piece piece) = IsNextPiece draws start old new piece
MatchEmission draws start old new (End ending) = GivesOnlyEnding draws start old new ending
