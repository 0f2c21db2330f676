-- Lines: how many bytes passed by each column. A table has an instant for each byte that passed, in order.
use Rattle.std.specs.Prelude.{◌≡◌, ℕ, ◌+◌, ◌<◌, ◌≤◌, ◌==◌, List, ◌++◌, count_by, fold, length, nat_lt, replicate, slice_index, Some}
use Rattle.tox_draw.specs.declared.curve.Curve.{Curve}
use Rattle.tox_draw.specs.declared.frame.Frame.{Frame}
use Rattle.tox_draw.specs.declared.strand.Strand.{Strand}
use Rattle.tox_draw.specs.Frames.{column_of, y_of}

-- how many bytes are in a column
abbrev pub in_column : Frame → List ℕ → ℕ → ℕ
in_column frame table column = count_by (λ t. column_of frame (Some t) == column) table

-- how many bytes are in the first so many columns
abbrev pub in_first : Frame → List ℕ → ℕ → ℕ
in_first frame table columns = count_by (λ t. nat_lt (column_of frame (Some t)) columns) table

-- the instant of the last byte, or 0
abbrev pub last_byte_at : List ℕ → ℕ
last_byte_at table = fold (λ before t. t) 0 table

-- what is kept of the bytes that passed
pub record IsStrand (frame : Frame) (table : List ℕ) (strand : Strand) : Type 0 where
  pub total : strand.total ≡ length table
  pub last : strand.last ≡ last_byte_at table
  pub counts : (column : ℕ) → column < 751
      → slice_index strand.counts.items column ≡ in_column frame table column

-- so many bytes more passed at an instant, where a stream may still have them
abbrev pub PassesBytes : Frame → ℕ → ℕ → Strand → Strand → Type 0
PassesBytes frame len instant old new =
    (table : List ℕ) → IsStrand frame table old → 0 < len → length table + len ≤ 1_099_511_627_776
    → IsStrand frame (table ++ replicate len instant) new

-- the line of the bytes that passed: the y of each column
abbrev pub AreYsOf : Frame → List ℕ → List ℕ → Type 0
AreYsOf frame table ys =
    (column : ℕ) → column < 751 → slice_index ys column ≡ y_of frame (in_first frame table (column + 1))

-- the line of the bytes that passed, with their number and the last instant
pub record IsCurve (frame : Frame) (table : List ℕ) (curve : Curve) : Type 0 where
  pub total : curve.total ≡ length table
  pub last : curve.last ≡ last_byte_at table
  pub ys : AreYsOf frame table curve.ys.items
