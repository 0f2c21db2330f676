-- The bytes of the columns so far are counted, and the y of each is there.
use Rattle.std.proofs.Common.{◌≡◌, ℕ, ◌+◌, ◌<◌, ◌≤◌, List, length, slice_index}
use Rattle.tox_draw.specs.Frames.{y_of}
use Rattle.tox_draw.specs.Lines.{IsStrand, in_first}
use Rattle.tox_draw.proofs.strand.Strand.ys.Given as goal

abbrev pub invariant-loop-column : goal.invariant-loop-column
invariant-loop-column l = record {
  long : length l.ys.items ≡ 751;
  few : l.so_far ≤ 1099511627776;
  counted : (table : List ℕ) → IsStrand l.frame table l.self → l.so_far ≡ in_first l.frame table l.column;
  line : (table : List ℕ) → IsStrand l.frame table l.self → (column : ℕ) → column < l.column
      → slice_index l.ys.items column ≡ y_of l.frame (in_first l.frame table (column + 1));
}
