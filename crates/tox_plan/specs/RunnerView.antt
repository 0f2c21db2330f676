-- A runner as a value, and its remaining output.
use Rattle.std.specs.Prelude.{◌≡◌, ℕ, ◌+◌, ◌*◌, ◌<◌, ◌≤◌, ◌^◌, Bool, true, false, if◌then◌else◌, List, [], ◌∷◌, ◌++◌, length, Option, None, IsSome, IfSome, ◌⊎◌}
use Rattle.std.specs.Prelude.{Result, Ok, Err, Some, is_some}
use Rattle.tox_time.specs.declared.streams.slice.Slice.{Slice}
use Rattle.tox_time.specs.declared.streams.item.Item.{Item}
use Rattle.tox_time.specs.declared.streams.item.Item.TheVariants.{Chunk, Closed, Reset, Quiet}
use Rattle.tox_time.specs.declared.streams.ending.Ending.{Ending}
use Rattle.tox_time.specs.declared.streams.arrivals.ArrivalFault.{ArrivalFault}
use Rattle.tox_time.specs.streams.Arrivals.{piece_fault}
use Rattle.tox_words.specs.Draw.{DrawingView, draws_of}
use Rattle.tox_defs.specs.declared.operations.op_cursor.OpCursor.{OpCursor}
use Rattle.tox_defs.specs.operations.Look.{as_chunk}
use Rattle.tox_defs.specs.operations.OpCursor.{ending_or}
use Rattle.tox_plan.specs.OpCursors.{to_come_from, AreNested, AreDrained, HaveEnded, AreOpenUnless}

-- what a runner is seen as
pub record RunnerView : Type 0 where
  -- the cursors, the last operation first
  pub cursors : List OpCursor
  pub drawing : DrawingView
  -- where the next slice begins
  pub position : ℕ
  -- the piece that was offered last, and the last instant
  pub piece : Slice
  pub latest : ℕ
  -- a cut that was found beyond the last slice, and whether nothing else is left of the offered piece
  pub lookahead : Option Slice
  pub drained : Bool
  -- the ending, once it is found, and whether the source's end was reported
  pub ending : Option Ending
  pub finished : Bool
  pub idle : Bool
  pub turns : ℕ
  -- whether some cursor may keep an ending
  pub ended : Bool
  pub cuts : ℕ
  pub pieces : ℕ

-- a found cut is the next chunk, and the cursors' reader stands behind it
abbrev pub found_chunk : Option Slice → List Item
found_chunk None = []
found_chunk (Some cut) = as_chunk cut ∷ []

abbrev pub reader_at : ℕ → Option Slice → ℕ
reader_at position None = position
reader_at position (Some cut) = cut.span.stop

-- the remaining output, if these items follow the offered pieces
abbrev pub to_come : RunnerView → List Item → List Item
to_come runner items =
    ending_or runner.ending
    (found_chunk runner.lookahead
    ++ to_come_from (draws_of runner.drawing) (reader_at runner.position runner.lookahead)
    runner.cursors runner.piece items)

-- the ending that an idle runner knows
abbrev pub known_ending : RunnerView → Option Ending
known_ending runner = if runner.idle then runner.ending else None

-- a list of items with no chunk
abbrev pub HasNoChunk : List Item → Type 0
HasNoChunk [] = Unit {0}
HasNoChunk (Chunk span t ∷ items) = ⊥
HasNoChunk (Closed t ∷ items) = HasNoChunk items
HasNoChunk (Reset t ∷ items) = HasNoChunk items
HasNoChunk (Quiet ∷ items) = HasNoChunk items

-- how many cuts were found and not given
abbrev pub found_count : Option Slice → ℕ
found_count None = 0
found_count (Some cut) = 1

-- the looks of one round, where a next one is due
abbrev pub round_due : Bool → Option Slice → ℕ → ℕ
round_due read (Some cut) round = 0
round_due read None round = if read then 0 else round

-- each turn looks at one operation: at most one round of looks for a cut or an offered piece.
-- While a look may be due, one round of the bound is unused.
abbrev pub AreCounted : RunnerView → Type 0
AreCounted runner =
    round_due runner.drained runner.lookahead (length runner.cursors) + runner.turns
    ≤ length runner.cursors * (runner.cuts + runner.pieces)

-- a found cut begins where the next slice does, and comes before any ending
pub record IsFound (runner : RunnerView) (cut : Slice) : Type 0 where
  pub begins : cut.span.start ≡ runner.position
  pub some : runner.position < cut.span.stop
  pub busy : runner.idle ≡ false
  pub running : runner.ending ≡ None

-- what holds of every runner
pub record IsRunning (runner : RunnerView) : Type 0 where
  pub nested : runner.ending ≡ None
      → AreNested (reader_at runner.position runner.lookahead) runner.cursors runner.piece
  pub drained : runner.drained ≡ true → runner.ending ≡ None
      → AreDrained (reader_at runner.position runner.lookahead) runner.cursors runner.piece
  pub found : IfSome runner.lookahead (IsFound runner)
  pub unended : AreOpenUnless runner.ended runner.cursors
  pub ended : IsSome runner.ending → runner.drained ≡ true
  pub idle : runner.idle ≡ true → runner.drained ≡ true
  pub cause : IsSome runner.ending → (runner.finished ≡ true) ⊎ HaveEnded runner.cursors
  pub reported : runner.finished ≡ true → IsSome runner.ending
  pub reached : runner.position ≤ runner.piece.span.stop
  pub here : runner.idle ≡ false → runner.piece.span.start ≤ runner.position
  pub few : runner.piece.span.stop ≤ 2 ^ 40
  pub few_cursors : length runner.cursors ≤ 32
  pub few_cuts : runner.cuts ≤ runner.position
  pub few_pieces : runner.pieces ≤ runner.piece.span.stop
  pub counted : AreCounted runner
  pub looked : 0 < length runner.cursors → runner.cuts + found_count runner.lookahead ≤ runner.turns

-- where nothing was offered yet
abbrev pub no_piece : Slice
no_piece = record { span = record { start = 0; stop = 0 }; instant = 0 }

-- the piece of this many bytes that comes after the offered ones
abbrev pub next_piece : RunnerView → ℕ → ℕ → Slice
next_piece runner len instant =
    record { span = record { start = runner.piece.span.stop; stop = runner.piece.span.stop + len }; instant = instant }

-- a runner after an accepted offer of a piece
abbrev pub with_offer : RunnerView → ℕ → ℕ → RunnerView
with_offer runner len instant =
    record runner {
      piece = next_piece runner len instant;
      latest = instant;
      drained = false;
      idle = false;
      pieces = runner.pieces + 1;
    }

-- what an offer is answered: the first fault, if there is one
abbrev pub answer_of : Option ArrivalFault → Result (Unit {0}) ArrivalFault
answer_of None = Ok tt
answer_of (Some fault) = Err fault

-- what an offer of a piece is answered
abbrev pub offer_answer : RunnerView → ℕ → ℕ → Result (Unit {0}) ArrivalFault
offer_answer runner len instant =
    answer_of (piece_fault runner.piece.span.stop runner.latest (is_some runner.ending) len instant)
