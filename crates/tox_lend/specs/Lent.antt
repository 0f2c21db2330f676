-- Exact slices: what is lent of a piece is its own bytes, at their own positions.
use Rattle.std.specs.Prelude.{◌≡◌, ℕ}
use Rattle.tox_time.specs.declared.streams.span.Span.{Span}
use Rattle.tox_lend.specs.declared.lent.Lent.{Lent}
use Rattle.tox_lend.specs.Run.{Run, bytes_at}

-- the slice has the span's start, the instant, and exactly the bytes of the piece at the span's positions
pub record IsExactSlice (piece : Run) (span : Span) (instant : ℕ) (lent : Lent) : Type 0 where
  pub starts : lent.start ≡ span.start
  pub leaves : lent.instant ≡ instant
  pub exact : lent.bytes.now ≡ bytes_at piece span
