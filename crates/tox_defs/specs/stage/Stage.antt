-- A stage as a value: a toxic's operation with its state after the whole reaction, and what is still to emit of that.
use Rattle.std.specs.Prelude.{◌≡◌, List, [], ◌∷◌, Option, None, Some}
use Rattle.tox_time.specs.declared.streams.item.Item.{Item}
use Rattle.tox_words.specs.Draw.{DrawingView, draws_of}
use Rattle.tox_defs.specs.declared.operations.op.Op.{Op}
use Rattle.tox_defs.specs.declared.operations.state.State.{State}
use Rattle.tox_time.specs.declared.streams.position.StreamPosition.{StreamPosition}
use Rattle.tox_defs.specs.stage.Reaction.{Reaction, first_state, react}
use Rattle.tox_defs.specs.operations.Op.{op_reaction}
use Rattle.tox_time.specs.streams.StreamPosition.{first_position, position_after}

-- what a stage is seen as
pub record Staged : Type 0 where
  pub op : Op
  pub drawing : DrawingView
  pub state : State
  pub pending : List Item
  pub place : StreamPosition

-- a stage that was given nothing yet
abbrev pub first_stage : Op → DrawingView → Staged
first_stage op drawing =
    record { op = op; drawing = drawing; state = first_state; pending = []; place = first_position }

-- how a stage reacts to an item
abbrev pub reaction_of : Staged → Reaction
reaction_of stage = op_reaction stage.op (draws_of stage.drawing)

-- the stage that took an item: it has the state after the reaction, and the whole reaction to emit
abbrev pub taken : Staged → Item → Staged
taken stage item = record {
  op = stage.op;
  drawing = stage.drawing;
  state = (react (reaction_of stage) stage.state item).state;
  pending = (react (reaction_of stage) stage.state item).given;
  place = position_after stage.place item;
}

-- the first item that is still to emit leaves the stage, if there is one
abbrev pub MatchEmitted : Staged → Staged → Option Item → Type 0
MatchEmitted old new (Some item) =
    (old.pending ≡ item ∷ new.pending) × (new ≡ record old { pending = new.pending })
MatchEmitted old new None = (old.pending ≡ []) × (new ≡ old)
