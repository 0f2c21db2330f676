-- An ending passes through drained cursors as an ending.
use Rattle.std.proofs.Common.{◌≡◌, ℕ, List, [], ◌∷◌, refl, ap, ◌∙◌}
use Rattle.tox_time.specs.declared.streams.slice.Slice.{Slice}
use Rattle.tox_time.specs.declared.streams.ending.Ending.{Ending}
use Rattle.tox_time.specs.declared.streams.ending.Ending.TheVariants.{StillOpen, Closed as ClosedAt, Reset as ResetAt}
use Rattle.tox_time.specs.streams.Table.{ending, final_of, table}
use Rattle.tox_words.specs.Draw.{Draws}
use Rattle.tox_defs.specs.declared.operations.op.Op.{Op}
use Rattle.tox_defs.specs.declared.operations.state.State.{State}
use Rattle.tox_defs.specs.declared.operations.op_cursor.OpCursor.{OpCursor}
use Rattle.tox_defs.specs.operations.Op.{op_giving}
use Rattle.tox_defs.specs.operations.OpCursor.{cursor_gives}
use Rattle.tox_defs.proofs.OpStreams.{gives-final}
use Rattle.tox_plan.specs.OpCursors.{to_come_from, AreNested, AreDrained}
use Rattle.tox_plan.proofs.CursorLemmas.{cursor_gives-final, to_come_from-read}

-- a final has no bytes, and is its ending
pub final-table : (last : Ending) → table (final_of last ∷ []) ≡ []
final-table StillOpen = refl
final-table (ClosedAt t) = refl
final-table (ResetAt t) = refl

pub final-ending : (last : Ending) → ending (final_of last ∷ []) ≡ last
final-ending StillOpen = refl
final-ending (ClosedAt t) = refl
final-ending (ResetAt t) = refl

-- every operation gives an ending for an ending
pub giving-final : (op : Op) (draws : Draws) (state : State) (end : Ending) → (last : Ending) × (op_giving op draws state (final_of end) ≡ final_of last ∷ [])
giving-final op draws state end = (ending (op_giving op (λ _ _. 0) state (final_of end)), gives-final op draws state end)

-- an ending passes through
pub drained-final : (draws : Draws) (start : ℕ) (cursors : List OpCursor) (source : Slice) (end : Ending) → AreNested start cursors source
    → AreDrained start cursors source
    → (last : Ending) × (to_come_from draws start cursors source (final_of end ∷ []) ≡ final_of last ∷ [])
drained-final draws start [] source end nested drained = (end, to_come_from-read draws start source (final_of end ∷ []) drained)
drained-final draws start (cursor ∷ cursors) source end nested drained =
    let before : (last : Ending) × (to_come_from draws cursor.stop cursors source (final_of end ∷ []) ≡ final_of last ∷ []) =
    drained-final draws cursor.stop cursors source end nested.1 drained.2 in
    let after : (last : Ending) × (op_giving cursor.op draws cursor.state (final_of before.0) ≡ final_of last ∷ []) =
    giving-final cursor.op draws cursor.state before.0 in (
      after.0,
      ap (λ items. cursor_gives draws start cursor items) before.1
          ∙ cursor_gives-final draws start cursor before.0 after.0 drained.0 drained.1 (nested.0.sound.running drained.1) after.1,
    )
