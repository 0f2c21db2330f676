-- What is still to come from the cursors of a plan, the last operation first.
use Rattle.std.specs.Prelude.{◌≡◌, ◌≢◌, ℕ, ◌+◌, ◌^◌, ◌<◌, ◌≤◌, Bool, false, List, [], ◌∷◌, ◌++◌, Option, Some, None, IsSome, ◌⊎◌}
use Rattle.tox_time.specs.declared.streams.slice.Slice.{Slice}
use Rattle.tox_time.specs.declared.streams.item.Item.{Item}
use Rattle.tox_time.specs.declared.streams.ending.Ending.{Ending}
use Rattle.tox_time.specs.streams.Table.{final_of}
use Rattle.tox_words.specs.Draw.{Draws}
use Rattle.tox_defs.specs.declared.operations.op.Op.{Op}
use Rattle.tox_defs.specs.declared.operations.op.Op.TheVariants.{Mute}
use Rattle.tox_defs.specs.declared.operations.op_cursor.OpCursor.{OpCursor}
use Rattle.tox_defs.specs.stage.Reaction.{first_state}
use Rattle.tox_defs.specs.operations.Op.{is_mute}
use Rattle.tox_defs.specs.operations.Look.{as_chunk, rest_of}
use Rattle.tox_defs.specs.operations.OpCursor.{cursor_gives, IsSoundCursor}
use Rattle.tox_defs.specs.declared.operations.op_cursor.Emission.{Emission}
use Rattle.tox_defs.specs.declared.operations.op_cursor.Emission.TheVariants.{Piece, End}

-- the ending that an operation has from the start
abbrev pub ending_at_start : Op → Option Ending
ending_at_start (Mute ending) = Some ending
ending_at_start op = None

-- the cursor of an operation that was given nothing yet
abbrev pub cursor_at_start : Op → OpCursor
cursor_at_start op =
    record { op = op; state = first_state; stop = 0; instant = 0; ending = ending_at_start op }

-- the cursors of a plan's operations, the last operation first
abbrev pub cursors_at_start : List Op → List OpCursor
cursors_at_start [] = []
cursors_at_start (op ∷ ops) = cursors_at_start ops ++ cursor_at_start op ∷ []

-- the operations of cursors in the plan's order
abbrev pub ops_of : List OpCursor → List Op
ops_of [] = []
ops_of (cursor ∷ cursors) = ops_of cursors ++ cursor.op ∷ []

-- what the cursors give from `start` on, if the source gives the rest of its piece and then these items
abbrev pub to_come_from : Draws → ℕ → List OpCursor → Slice → List Item → List Item
to_come_from draws start [] source items = rest_of start source.span.stop source.instant ++ items
to_come_from draws start (cursor ∷ cursors) source items =
    cursor_gives draws start cursor (to_come_from draws cursor.stop cursors source items)

-- a cursor whose reader stands at `start`, and that lets something through unless its ending is known
pub record IsCursor (start : ℕ) (cursor : OpCursor) : Type 0 where
  pub sound : IsSoundCursor start cursor
  pub heard : cursor.ending ≡ None → is_mute cursor.op ≡ false

-- ends nest: each cursor's reader stands in its chunk or at the chunk's end
abbrev pub AreNested : ℕ → List OpCursor → Slice → Type 0
AreNested start [] source = start ≤ source.span.stop
AreNested start (cursor ∷ cursors) source = IsCursor start cursor × AreNested cursor.stop cursors source

-- a cursor that has nothing left for a reader at `start`
pub record IsRead (start : ℕ) (cursor : OpCursor) : Type 0 where
  pub nested : IsCursor start cursor
  pub read : cursor.stop ≡ start
  pub open_yet : cursor.ending ≡ None

-- the first of these cursors, if there is one, has a rest or an ending
abbrev pub BeginsUnread : ℕ → List OpCursor → Type 0
BeginsUnread start [] = Unit {0}
BeginsUnread start (cursor ∷ cursors) = cursor.ending ≡ None → cursor.stop ≢ start

-- each cursor's chunk is read to its end, and so is the source's piece
abbrev pub AreRead : ℕ → List OpCursor → Slice → Type 0
AreRead start [] source = source.span.stop ≡ start
AreRead start (cursor ∷ cursors) source = (cursor.stop ≡ start) × AreRead cursor.stop cursors source

-- no cursor has a rest or an ending, and the source's piece is used up
abbrev pub AreDrained : ℕ → List OpCursor → Slice → Type 0
AreDrained start [] source = source.span.stop ≡ start
AreDrained start (cursor ∷ cursors) source =
    (cursor.stop ≡ start) × (cursor.ending ≡ None) × AreDrained cursor.stop cursors source

-- the piece is the next of what is to come, and the rest is to come after it
pub record IsNext (draws : Draws) (start : ℕ) (old new : List OpCursor)
    (source piece : Slice) : Type 0 where
  pub begins : piece.span.start ≡ start
  pub some : start < piece.span.stop
  pub nested : AreNested piece.span.stop new source
  pub gives : (items : List Item)
      → to_come_from draws start old source items
      ≡ as_chunk piece ∷ to_come_from draws piece.span.stop new source items

-- this ending is to come and nothing else, whatever the source gives
abbrev pub OnlyEnds : Draws → ℕ → List OpCursor → Slice → Ending → Type 0
OnlyEnds draws start cursors source ending =
    (items : List Item) → to_come_from draws start cursors source items ≡ final_of ending ∷ []

-- some cursor's ending is known
abbrev pub HaveEnded : List OpCursor → Type 0
HaveEnded [] = ⊥
HaveEnded (cursor ∷ cursors) = IsSome cursor.ending ⊎ HaveEnded cursors

-- where no ending was found, no cursor keeps one
abbrev pub AreOpenUnless : Bool → List OpCursor → Type 0
AreOpenUnless ended cursors = ended ≡ false → HaveEnded cursors → ⊥

-- a pull brought the ending, which some cursor keeps
pub record IsTheEnd (draws : Draws) (start : ℕ) (old new : List OpCursor) (source : Slice)
    (ending : Ending) : Type 0 where
  pub only : OnlyEnds draws start old source ending
  pub kept : HaveEnded new

-- a piece, if one comes, begins where the reader stands
abbrev pub IsFrom : ℕ → Option Emission → Type 0
IsFrom start None = Unit {0}
IsFrom start (Some (Piece piece)) =
    (piece.span.start ≡ start) × (start < piece.span.stop) × (piece.span.stop ≤ 2 ^ 40)
IsFrom start (Some (End ending)) = Unit {0}

-- a pull looked at some of so many cursors, each at most once, and at one at least where there is one
pub record LooksOnce (cursors before after : ℕ) : Type 0 where
  pub most : after ≤ before + cursors
  pub more : before ≤ after
  pub some : 0 < cursors → before < after

-- in front of any cursors these change nothing of it that none keeps an ending where none was found
abbrev pub StayOpen : Bool → Bool → List OpCursor → Type 0
StayOpen before after cursors =
    (upstream : List OpCursor) → AreOpenUnless before upstream
    → AreOpenUnless after (cursors ++ upstream)

-- what a pull brought
abbrev pub MatchPulled : Draws → ℕ → List OpCursor → List OpCursor → Slice → Option Emission → Type 0
MatchPulled draws start old new source None = (new ≡ old) × AreDrained start old source
MatchPulled draws start old new source (Some (Piece piece)) = IsNext draws start old new source piece
MatchPulled draws start old new source (Some (End ending)) = IsTheEnd draws start old new source ending

-- what was pulled through the cursors behind these went on through these
abbrev pub PullsThrough : Draws → ℕ → List OpCursor → List OpCursor → Option Emission
    → Option Emission → Type 0
PullsThrough draws start before after pulled passed =
    (source : Slice) (old new : List OpCursor) → MatchPulled draws start old new source pulled
    → MatchPulled draws start (before ++ old) (after ++ new) source passed
