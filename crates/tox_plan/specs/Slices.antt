-- Slices lent from the offered piece.
use Rattle.std.specs.Prelude.{◌≡◌, ◌-◌, true, List, [], ◌∷◌, Option, Some, None}
use Rattle.std.specs.Iterator.{Count, at_most}
use Rattle.tox_time.specs.declared.streams.slice.Slice.{Slice}
use Rattle.tox_time.specs.declared.streams.item.Item.{Item}
use Rattle.tox_time.specs.declared.streams.item.Item.TheVariants.{Quiet}
use Rattle.tox_lend.specs.Run.{Run, stop_of}
use Rattle.tox_lend.specs.Lent.{IsExactSlice}
use Rattle.tox_lend.specs.declared.lent.Lent.{Lent}
use Rattle.tox_plan.specs.declared.slices.Slices.{Slices}
use Rattle.tox_plan.specs.RunnerView.{RunnerView, to_come, HasNoChunk}
use Rattle.tox_plan.specs.Cuts.{GivesCut}
use Rattle.tox_plan.specs.OpCursors.{ops_of}

-- the piece has the start, the length and the instant of the last accepted offer
pub record IsOffered (runner : RunnerView) (piece : Run) : Type 0 where
  pub starts : runner.piece.span.start ≡ piece.start
  pub stops : runner.piece.span.stop ≡ stop_of piece
  pub arrives : runner.piece.instant ≡ piece.instant

abbrev pub CanLend : Slices → Type 0
CanLend slices = IsOffered slices.runner slices.piece.now

-- how many bytes of the piece are left at most
abbrev pub bytes_left : Slices → Count
bytes_left slices = at_most (slices.runner.piece.span.stop - slices.runner.position)

-- a call keeps the piece, and the plan, the words and the offers of the runner
pub record KeepsPiece (old new : Slices) : Type 0 where
  pub lends : new.piece.now ≡ old.piece.now
  pub piece : new.runner.piece ≡ old.runner.piece
  pub latest : new.runner.latest ≡ old.runner.latest
  pub drawing : new.runner.drawing ≡ old.runner.drawing
  pub ops : ops_of new.runner.cursors ≡ ops_of old.runner.cursors
  pub finished : new.runner.finished ≡ old.runner.finished
  pub pieces : new.runner.pieces ≡ old.runner.pieces

-- the runner gives its next slice, which is lent as the piece's own bytes at its positions
pub record LendsNext (old new : Slices) (lent : Lent) : Type 0 where
  pub slice : Slice
  pub gives : GivesCut old.runner new.runner slice
  pub exact : IsExactSlice old.piece.now slice.span slice.instant lent

-- nothing of the piece is left, and the runner is idle
pub record LendsNone (old new : Slices) : Type 0 where
  pub stands : new.runner.position ≡ old.runner.position
  pub cuts : new.runner.cuts ≡ old.runner.cuts
  pub none : HasNoChunk (to_come old.runner (Quiet ∷ []))
  pub idle : new.runner.idle ≡ true
  pub same : (items : List Item) → to_come new.runner items ≡ to_come old.runner items

abbrev pub GivesLent : Slices → Option Lent → Slices → Type 0
GivesLent old None new = KeepsPiece old new × LendsNone old new
GivesLent old (Some lent) new = KeepsPiece old new × LendsNext old new lent
