-- What a pull brings is what comes next from all the cursors.
use Rattle.std.proofs.Common.{◌≡◌, ℕ, ◌^◌, ◌≤◌, false, List, [], ◌∷◌, Option, None, Some, ap, sym, subst, ◌∙◌, arith, inl}
use Rattle.std.specs.Prelude.{MatchOption, is_some}
use Rattle.tox_time.specs.declared.streams.slice.Slice.{Slice}
use Rattle.tox_time.specs.declared.streams.item.Item.{Item}
use Rattle.tox_time.specs.declared.streams.ending.Ending.{Ending}
use Rattle.tox_time.specs.streams.Table.{final_of}
use Rattle.tox_words.specs.Draw.{Draws}
use Rattle.tox_defs.specs.declared.operations.op_cursor.OpCursor.{OpCursor}
use Rattle.tox_defs.specs.operations.Op.{op_giving, is_mute}
use Rattle.tox_defs.specs.operations.Look.{as_chunk}
use Rattle.tox_defs.specs.operations.OpCursor.{cursor_gives, IsSoundCursor, IsNextPiece, GivesOnlyEnding, MatchEmission}
use Rattle.tox_defs.specs.declared.operations.op_cursor.Emission.{Emission}
use Rattle.tox_defs.specs.declared.operations.op_cursor.Emission.TheVariants.{Piece, End}
use Rattle.tox_plan.specs.OpCursors.{to_come_from, AreNested, AreDrained, AreRead, IsNext, IsFrom, MatchPulled, OnlyEnds}
use Rattle.tox_plan.proofs.CursorLemmas.{nested-below, cursor_gives-filled, cursor_gives-final}

-- the first cursor's next piece
advanced-piece : (draws : Draws) (start : ℕ) (cursors upstream : List OpCursor) (cursor new : OpCursor) (source piece : Slice)
    → ((items : List Item) → to_come_from draws start cursors source items
    ≡ cursor_gives draws start cursor (to_come_from draws cursor.stop upstream source items))
    → AreNested cursor.stop upstream source → is_mute cursor.op ≡ false → IsNextPiece draws start cursor new piece
    → IsNext draws start cursors (new ∷ upstream) source piece
advanced-piece draws start cursors upstream cursor new source piece same nested heard next = record {
  begins = next.begins;
  some = next.some;
  nested = (record { sound = next.sound; heard = λ none. ap is_mute next.op ∙ heard }, subst (λ stop. AreNested stop upstream source) (sym next.stop) nested);
  gives = λ items. same items ∙ next.gives (to_come_from draws cursor.stop upstream source items)
      ∙ ap (λ stop. as_chunk piece ∷ cursor_gives draws piece.span.stop new (to_come_from draws stop upstream source items)) (sym next.stop);
}

-- a cursor that has a piece from upstream as its present chunk
abbrev pub filled : OpCursor → Slice → OpCursor
filled cursor piece = record { op = cursor.op; state = cursor.state; stop = piece.span.stop; instant = piece.instant; ending = cursor.ending }

-- a pull that brings the first cursor a piece from upstream
module _ (draws : Draws) (start : ℕ) (old upstream : List OpCursor) (cursor : OpCursor) (source piece : Slice) (running : cursor.ending ≡ None)
    (read : cursor.stop ≡ start) (next : IsNext draws start old upstream source piece) where
  filled-gives : (items : List Item) → to_come_from draws start (cursor ∷ old) source items
      ≡ cursor_gives draws start (filled cursor piece) (to_come_from draws piece.span.stop upstream source items)
  filled-gives items =
      ap (λ stop. cursor_gives draws start cursor (to_come_from draws stop old source items)) read
      ∙ ap (λ items. cursor_gives draws start cursor items) (next.gives items)
      ∙ cursor_gives-filled draws start cursor piece (to_come_from draws piece.span.stop upstream source items) running read (next.begins ∙ sym read)
      (omega (arith, next.some, read))

  pub filled-piece : (new : OpCursor) (found : Slice) → is_mute cursor.op ≡ false → IsNextPiece draws start (filled cursor piece) new found
      → IsNext draws start (cursor ∷ old) (new ∷ upstream) source found
  filled-piece new found heard advanced = advanced-piece draws start (cursor ∷ old) upstream (filled cursor piece) new source found filled-gives next.nested
      heard advanced

  pub filled-end : (new : OpCursor) (ending : Ending) → GivesOnlyEnding draws start (filled cursor piece) new ending
      → OnlyEnds draws start (cursor ∷ old) source ending
  filled-end new ending at_end items = filled-gives items ∙ at_end.gives (to_come_from draws piece.span.stop upstream source items)

-- an ending that comes from upstream
pub upstream-end : (draws : Draws) (start : ℕ) (upstream : List OpCursor) (cursor : OpCursor) (source : Slice) (ending last : Ending) → cursor.ending ≡ None
    → cursor.stop ≡ start → IsSoundCursor start cursor
    → OnlyEnds draws start upstream source ending → ((draws : Draws) → op_giving cursor.op draws cursor.state (final_of ending) ≡ final_of last ∷ [])
    → OnlyEnds draws start (cursor ∷ upstream) source last
upstream-end draws start upstream cursor source ending last running read sound only gives items =
    ap (λ stop. cursor_gives draws start cursor (to_come_from draws stop upstream source items)) read
    ∙ ap (λ items. cursor_gives draws start cursor items) (only items)
    ∙ cursor_gives-final draws start cursor ending last read running (sound.running running) (gives draws)

-- the ending that upstream cursors know, and what a cursor makes of it
abbrev pub Knows : List OpCursor → Option Ending → Type 0
Knows cursors known = (draws : Draws) (start : ℕ) (source : Slice) → AreNested start cursors source → AreRead start cursors source
    → MatchOption known (AreDrained start cursors source) (OnlyEnds draws start cursors source)

pub knows-some : (cursor : OpCursor) (upstream : List OpCursor) (known : Option Ending) (ending last : Ending) → Knows upstream known → known ≡ Some ending
    → cursor.ending ≡ None
    → ((draws : Draws) → op_giving cursor.op draws cursor.state (final_of ending) ≡ final_of last ∷ []) → Knows (cursor ∷ upstream) (Some last)
knows-some cursor upstream known ending last knows is running gives draws start source nested read =
    let only : OnlyEnds draws start upstream source ending = rw is at (knows draws start source (subst (λ stop. AreNested stop upstream source) read.0 nested.1)
    (subst (λ stop. AreRead stop upstream source) read.0 read.1)) in
    upstream-end draws start upstream cursor source ending last running read.0 nested.0.sound only gives

pub knows-none : (cursor : OpCursor) (upstream : List OpCursor) (known : Option Ending) → Knows upstream known → known ≡ None → cursor.ending ≡ None
    → Knows (cursor ∷ upstream) None
knows-none cursor upstream known knows is running draws start source nested read =
    let drained : AreDrained cursor.stop upstream source = rw is at (knows draws cursor.stop source nested.1 read.1) in
    (read.0, running, drained)

-- what a cursor that has nothing left gives for the piece that comes from upstream
pub passed-piece : (draws : Draws) (start : ℕ) (old new : List OpCursor) (cursor later : OpCursor) (source piece : Slice) (given : Emission)
    → cursor.ending ≡ None → cursor.stop ≡ start → is_mute cursor.op ≡ false
    → IsNext draws start old new source piece → MatchEmission draws start (filled cursor piece) later given
    → MatchPulled draws start (cursor ∷ old) (later ∷ new) source (Some given)
passed-piece draws start old new cursor later source piece (Piece found) running read heard next given =
    filled-piece draws start old new cursor source piece running read next later found heard given
passed-piece draws start old new cursor later source piece (End ending) running read heard next given = record {
  only = filled-end draws start old new cursor source piece running read next later ending given;
  kept = inl (ap is_some given.ended);
}

-- a piece that comes begins where the reader stands
pub pulled-from : (draws : Draws) (start : ℕ) (old new : List OpCursor) (source : Slice) (given : Option Emission) → source.span.stop ≤ 2 ^ 40
    → MatchPulled draws start old new source given → IsFrom start given
pulled-from draws start old new source None few nothing = tt
pulled-from draws start old new source (Some (Piece piece)) few next =
    let below : piece.span.stop ≤ source.span.stop = nested-below piece.span.stop new source next.nested in
    (next.begins, omega (arith, next.begins, next.some), omega (arith, below, few))
pulled-from draws start old new source (Some (End ending)) few end = tt
