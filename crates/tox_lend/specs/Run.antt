-- Bytes that stand at neighbouring positions of a link and have one instant.
use Rattle.std.specs.Prelude.{ℕ, ◌+◌, ◌-◌, ◌≤◌, List, length, slice_range}
use Rattle.tox_time.specs.declared.streams.span.Span.{Span}

-- bytes from a position on, their instant, and how many bytes their vector has room for: what a piece is seen as
pub record Run : Type 0 where
  pub start : ℕ
  pub bytes : List ℕ
  pub instant : ℕ
  pub room : ℕ

-- the position after the last byte
abbrev pub stop_of : Run → ℕ
stop_of run = run.start + length run.bytes

-- the span has its positions in the run
pub record LiesIn (span : Span) (run : Run) : Type 0 where
  pub from_start : run.start ≤ span.start
  pub in_order : span.start ≤ span.stop
  pub to_stop : span.stop ≤ stop_of run

-- the bytes of a run at the positions of a span
abbrev pub bytes_at : Run → Span → List ℕ
bytes_at run span = slice_range run.bytes (span.start - run.start) (span.stop - run.start)
