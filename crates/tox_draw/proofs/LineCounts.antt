-- Counts by column.
use Rattle.std.proofs.Common.{◌≡◌, ℕ, ◌+◌, ◌*◌, ◌<◌, ◌≤◌, ◌==◌, Bool, true, false, List, [], ◌∷◌, ◌++◌, length, replicate, cond, count_by, fold, nat_lt, Some}
use Rattle.std.proofs.Common.{refl, ap, sym, ◌∙◌, arith, suc, zero, set, slice_index, ◌≢◌, zero-add, get_or, min}
use Rattle.std.proofs.lemmas.Grind.{common_steps}
use Rattle.std.proofs.lemmas.List.Sums.{sum_by-append}
use Rattle.std.proofs.lemmas.List.Folds.{sum_by-replicate}
use Rattle.tox_draw.specs.declared.frame.Frame.{Frame}
use Rattle.tox_draw.specs.Frames.{column_of}
use Rattle.tox_draw.specs.Lines.{in_column, in_first, last_byte_at}

one : (n k : ℕ) → cond {A = ℕ} (nat_lt n (k + 1)) 1 0 ≡ cond (nat_lt n k) 1 0 + cond (n == k) 1 0
one n k = grind arith

-- one byte before others
first_counted : (p : ℕ → Bool) (t : ℕ) (table : List ℕ) → count_by p (t ∷ table) ≡ cond (p t) 1 0 + count_by p table
first_counted p t table =
    sum_by-append (λ u. cond (p u) 1 0) (t ∷ []) table ∙ ap (λ n. n + count_by p table) (zero-add (cond (p t) 1 0))

-- one column more
pub in_first-next : (frame : Frame) (table : List ℕ) (columns : ℕ) → in_first frame table (columns + 1)
    ≡ in_first frame table columns + in_column frame table columns
in_first-next frame [] columns = omega arith
in_first-next frame (t ∷ table) columns =
    let here = one (column_of frame (Some t)) columns in
    let rest = in_first-next frame table columns in
    let a = first_counted (λ u. nat_lt (column_of frame (Some u)) (columns + 1)) t table in
    let b = first_counted (λ u. nat_lt (column_of frame (Some u)) columns) t table in
    let c = first_counted (λ u. column_of frame (Some u) == columns) t table in
    omega (arith, here, rest, a, b, c)

none : (n : ℕ) → cond {A = ℕ} (nat_lt n 0) 1 0 ≡ zero
none n = grind arith

-- no byte is before the first column
pub in_first-none : (frame : Frame) (table : List ℕ) → in_first frame table 0 ≡ 0
in_first-none frame [] = refl
in_first-none frame (t ∷ table) =
    let a = first_counted (λ u. nat_lt (column_of frame (Some u)) 0) t table in
    let b = none (column_of frame (Some t)) in
    omega (arith, a, b, in_first-none frame table)

-- the count of a column that grew, as the code reads and writes it
pub grown_there : (items : List ℕ) (at column read new len count : ℕ) → length items ≡ 751 → column < 751 → at ≡ column → read ≡ get_or items at read
    → new ≡ min (read + len) 18446744073709551615
    → slice_index items column ≡ count → count + len ≤ 1099511627776 → new ≡ count + len
grown_there items at column read new len count long below same was grew before few =
    let there : get_or items at read ≡ slice_index items column = grind (arith, common_steps, same, long, below) in
    let reads : read ≡ count = was ∙ there ∙ before in
    omega (arith, reads, grew, few)

-- a count that grew in one column
pub added : (items : List ℕ) (at column new len count : ℕ) → length items ≡ 751 → at ≤ 750 → column < 751 → (at ≡ column → new ≡ count + len)
    → slice_index items column ≡ count
    → slice_index (set items at new) column ≡ count + len * cond (at == column) 1 0
added items at column new len count long within below grown before = by (at == column) refl
  where
    by : (same : Bool) → (at == column) ≡ same → slice_index (set items at new) column ≡ count + len * cond (at == column) 1 0
    by true is =
        let here : at ≡ column = grind (arith, is) in
        let there : slice_index (set items at new) column ≡ new = grind (arith, common_steps, here, long, within) in
        rw is (there ∙ grown here ∙ omega arith)
    by false is =
        let other : at ≢ column = grind (arith, is) in
        let there : slice_index (set items at new) column ≡ slice_index items column = grind (arith, common_steps, other) in
        rw is (there ∙ before ∙ omega arith)

-- more bytes at one instant
pub in_column-more : (frame : Frame) (table : List ℕ) (len t column : ℕ)
    → in_column frame (table ++ replicate len t) column ≡ in_column frame table column + len * cond (column_of frame (Some t) == column) 1 0
in_column-more frame table len t column =
    sum_by-append (λ u. cond (column_of frame (Some u) == column) 1 0) table (replicate len t)
    ∙ ap (λ n. in_column frame table column + n) (sum_by-replicate (λ u. cond (column_of frame (Some u) == column) 1 0) len t)

last_byte_at-append : (before : ℕ) (xs ys : List ℕ) → fold (λ a t. t) before (xs ++ ys) ≡ fold (λ a t. t) (fold (λ a t. t) before xs) ys
last_byte_at-append before [] ys = refl
last_byte_at-append before (x ∷ xs) ys = last_byte_at-append x xs ys

last_byte_at-replicate : (n t before : ℕ) → fold (λ a u. u) before (replicate (suc n) t) ≡ t
last_byte_at-replicate zero t before = refl
last_byte_at-replicate (suc n) t before = last_byte_at-replicate n t t

-- the last of them
pub last_byte_at-more : (table : List ℕ) (len t : ℕ) → 0 < len → last_byte_at (table ++ replicate len t) ≡ t
last_byte_at-more table zero t some = absurd (omega arith)
last_byte_at-more table (suc n) t some = last_byte_at-append 0 table (replicate (suc n) t) ∙ last_byte_at-replicate n t (last_byte_at table)

-- a line that has one column more
pub line_next : (ys : List ℕ) (at new : ℕ) (y : ℕ → ℕ) → length ys ≡ 751 → at < 751 → new ≡ y at → ((k : ℕ) → k < at → slice_index ys k ≡ y k) → (k : ℕ)
    → k < at + 1 → slice_index (set ys at new) k ≡ y k
line_next ys at new y long here is before k below = by (k == at) refl
  where
    by : (same : Bool) → (k == at) ≡ same → slice_index (set ys at new) k ≡ y k
    by true same =
        let equal : k ≡ at = grind (arith, same) in
        let there : slice_index (set ys at new) k ≡ new = grind (arith, common_steps, equal, long, here) in
        there ∙ is ∙ ap y (sym equal)
    by false same =
        let other : k ≢ at = grind (arith, same) in
        let there : slice_index (set ys at new) k ≡ slice_index ys k = grind (arith, common_steps, other) in
        there ∙ before k (omega (arith, other, below))
