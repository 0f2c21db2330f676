-- Lines that wait to be written, and how many were dropped behind them.
use Rattle.std.specs.Prelude.{ℕ, ◌+◌, ◌==◌, ◌&&◌, Bool, List, [], ◌++◌, length, min, nat_le, if◌then◌else◌}

-- the bytes of whole lines, and the count of lines that were dropped behind them
pub record Lines : Type 0 where
  pub bytes : List ℕ
  pub dropped : ℕ

abbrev pub no_lines : Lines
no_lines = record { bytes = []; dropped = 0 }

-- whether a line of so many bytes is kept: no line was dropped before it, and all bytes together are at most 65,536
abbrev pub has_room : Lines → ℕ → Bool
has_room lines len = (lines.dropped == 0) && nat_le (length lines.bytes + len) 65536

-- the lines with one more: kept behind the others, or dropped and counted
abbrev pub with_line : Lines → List ℕ → Lines
with_line lines line =
    if has_room lines (length line)
    then record { bytes = lines.bytes ++ line; dropped = lines.dropped }
    else record { bytes = lines.bytes; dropped = min (lines.dropped + 1) 18446744073709551615 }
