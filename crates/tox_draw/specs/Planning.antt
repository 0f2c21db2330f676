-- What a plan gives for what was heard, as it is drawn.
use Rattle.std.specs.Prelude.{◌≡◌, ℕ, ◌+◌, ◌≤◌, ◌^◌, true, List, [], ◌∷◌, ◌++◌, length, None}
use Rattle.tox_time.specs.declared.streams.item.Item.{Item}
use Rattle.tox_time.specs.declared.streams.item.Item.TheVariants.{Chunk, Closed}
use Rattle.tox_time.specs.declared.streams.position.StreamPosition.{StreamPosition}
use Rattle.tox_time.specs.streams.Stream.{IsStream}
use Rattle.tox_time.specs.streams.Table.{ending, table}
use Rattle.tox_link.specs.declared.notes.LinkEvent.TheVariants.{Piece, SourceEnd}
use Rattle.tox_log.specs.declared.event_line.LogLine.TheVariants.{Event}
use Rattle.tox_log.specs.Order.{ComesNext, heard_with}
use Rattle.tox_plan.specs.RunnerView.{RunnerView, to_come}
use Rattle.tox_draw.specs.declared.frame.Frame.{Frame}
use Rattle.tox_draw.specs.declared.strand.Strand.{Strand}
use Rattle.tox_draw.specs.Lines.{IsStrand}

-- what was due so far is drawn. With what is to come it is the meaning of what was heard, whatever comes behind that
pub record DrawsPlan (frame : Frame) (means behind : List Item → List Item) (planned : Strand)
    (runner : RunnerView) : Type 0 where
  pub due : List ℕ
  pub drawn : IsStrand frame due planned
  pub counted : length due ≡ runner.position
  pub tables : (items : List Item) → IsStream (behind items)
      → due ++ table (to_come runner items) ≡ table (means (behind items))
  pub endings : (items : List Item) → IsStream (behind items)
      → ending (to_come runner items) ≡ ending (means (behind items))

-- a runner waits for what comes behind a position, if its link goes on
pub record WaitsAt (heard : StreamPosition) (runner : RunnerView) : Type 0 where
  pub idle : runner.idle ≡ true
  pub few : runner.piece.span.stop ≤ 2 ^ 40
  pub stop : runner.ending ≡ None → runner.piece.span.stop ≡ heard.position
  pub latest : runner.latest ≤ heard.latest

-- a piece behind a position
abbrev pub piece_behind : StreamPosition → ℕ → ℕ → Item
piece_behind heard len instant =
    Chunk (record { start = heard.position; stop = heard.position + len }) instant

-- a runner takes a piece that comes next, and what it brings is drawn
abbrev pub DrawsPiece : Frame → Strand → RunnerView → ℕ → ℕ → Strand → RunnerView → Type 0
DrawsPiece frame old before len instant new after =
    (means behind : List Item → List Item) (heard : StreamPosition)
    → ComesNext heard (Event (Piece len instant)) → WaitsAt heard before
    → DrawsPlan frame means behind old before
    → WaitsAt (heard_with heard (Event (Piece len instant))) after
    × DrawsPlan frame means (λ items. behind (piece_behind heard len instant ∷ items)) new after

-- a runner gives what is due now, and it is drawn
abbrev pub DrawsCuts : Frame → Strand → RunnerView → Strand → RunnerView → Type 0
DrawsCuts frame old before new after =
    (means behind : List Item → List Item) → before.piece.span.stop ≤ 2 ^ 40
    → DrawsPlan frame means behind old before → DrawsPlan frame means behind new after

-- a runner is told that the source ends
abbrev pub DrawsSourceEnd : Frame → Strand → RunnerView → ℕ → RunnerView → Type 0
DrawsSourceEnd frame planned before instant after =
    (means behind : List Item → List Item) (heard : StreamPosition)
    → ComesNext heard (Event (SourceEnd instant)) → WaitsAt heard before
    → DrawsPlan frame means behind planned before
    → WaitsAt (heard_with heard (Event (SourceEnd instant))) after
    × DrawsPlan frame means (λ items. behind (Closed instant ∷ [])) planned after
