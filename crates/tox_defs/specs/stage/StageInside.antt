-- What a contract sees of a `Stage`, and what its fields keep.
use Rattle.std.specs.Prelude.{◌≡◌, ℕ, ◌^◌, ◌<◌, ◌≤◌, None, false, []}
use Rattle.tox_words.specs.Draw.{draws_of}
use Rattle.tox_defs.specs.declared.stage.Stage.TheInside.{Inside}
use Rattle.tox_defs.specs.declared.operations.state.State.{State}
use Rattle.tox_defs.specs.operations.Op.{IsOp, is_mute}
use Rattle.tox_defs.specs.operations.OpCursor.{cursor_gives, cursor_leaves}
use Rattle.tox_defs.specs.stage.Stage.{Staged}

abbrev pub staged : Inside → Staged
staged stage = record {
  op = stage.cursor.op;
  drawing = stage.drawing;
  state = cursor_leaves (draws_of stage.drawing) stage.start stage.cursor;
  pending = cursor_gives (draws_of stage.drawing) stage.start stage.cursor [];
  place = stage.place;
}

-- a running operation counted no more than the bytes that it read
pub record IsCounted (start : ℕ) (state : State) : Type 0 where
  pub chunks : state.chunks ≤ start
  pub pieces : state.pieces ≤ start
  pub passed : state.passed ≤ start

pub record KeepsStage (stage : Inside) : Type 0 where
  pub here : stage.place.position ≡ stage.cursor.stop
  pub within : stage.start ≤ stage.cursor.stop
  pub few : stage.cursor.stop ≤ 2 ^ 40
  pub counted : stage.cursor.state.done ≡ false → IsCounted stage.start stage.cursor.state
  pub running : stage.start < stage.cursor.stop → stage.cursor.ending ≡ None
      → stage.cursor.state.done ≡ false
  pub heard : stage.start < stage.cursor.stop → is_mute stage.cursor.op ≡ false
  pub operation : IsOp stage.cursor.op
