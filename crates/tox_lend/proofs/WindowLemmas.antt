-- Pieces without gaps: their stops rise, so a position is found by halving, and what ends by a position comes first.
use Rattle.std.proofs.Common.{◌≡◌, ℕ, zero, suc, ◌+◌, ◌<◌, ◌≤◌, true, false, List, [], ◌∷◌, ◌++◌, length, drop, filter, find, get_or, Some, None, nat_lt}
use Rattle.std.proofs.Common.{if◌then◌else◌, add-one, refl, ap, sym, ◌∙◌, arith, rules, tests}
use Rattle.std.specs.Prelude.{nat_le}
use Rattle.std.specs.List.{AllAdjacentBelow, AllWithin}
use Rattle.std.specs.List.Sorted.{IsPartitionPoint, IsPartitionedBy}
use Rattle.std.proofs.lemmas.List.{drop_all, drop_more}
use Rattle.std.proofs.lemmas.List.Sorted.{IsNonDecreasingBy-from_all_adjacent, IsPartitionedBy-leb}
use Rattle.tox_lend.specs.Run.{Run, stop_of}
use Rattle.tox_lend.specs.Window.{JoinUpTo, has_position, start_of}

pub start_of-push : (stop : ℕ) (pieces : List Run) (piece : Run) → piece.start ≡ stop → start_of (stop_of piece) (pieces ++ piece ∷ []) ≡ start_of stop pieces
start_of-push stop [] piece starts = starts
start_of-push stop (first ∷ pieces) piece starts = refl

-- one more piece
pub JoinUpTo-push : (stop : ℕ) (pieces : List Run) (piece : Run) → JoinUpTo stop pieces → piece.start ≡ stop → 0 < length piece.bytes
    → JoinUpTo (stop_of piece) (pieces ++ piece ∷ [])
JoinUpTo-push stop [] piece joined starts some = (some, refl, tt)
JoinUpTo-push stop (first ∷ pieces) piece joined starts some =
    (joined.0, joined.1 ∙ sym (start_of-push stop pieces piece starts), JoinUpTo-push stop pieces piece joined.2 starts some)

-- the pieces behind the first ones
JoinUpTo-drop : (stop i : ℕ) (pieces : List Run) → JoinUpTo stop pieces → JoinUpTo stop (drop i pieces)
JoinUpTo-drop stop zero pieces joined = joined
JoinUpTo-drop stop (suc i) [] joined = tt
JoinUpTo-drop stop (suc i) (piece ∷ pieces) joined = JoinUpTo-drop stop i pieces joined.2

stops_rise : (stop : ℕ) (pieces : List Run) (k : ℕ) (d : Run) → JoinUpTo stop pieces → suc k < length pieces
    → stop_of (get_or pieces k d) ≤ stop_of (get_or pieces (suc k) d)
stops_rise stop [] k d joined below = absurd (omega arith)
stops_rise stop (piece ∷ []) k d joined below = absurd (omega arith)
stops_rise stop (piece ∷ next ∷ pieces) zero d joined below = omega (arith, joined.1)
stops_rise stop (piece ∷ next ∷ pieces) (suc k) d joined below = stops_rise stop (next ∷ pieces) k d joined.2 (omega arith)

-- the pieces that end by a position come first
pub ends_first : (stop position : ℕ) (pieces : List Run) → JoinUpTo stop pieces → IsPartitionedBy (λ piece. nat_le (stop_of piece) position) pieces
ends_first stop position pieces joined =
    let adjacent : AllAdjacentBelow (λ x y. stop_of x ≤ stop_of y) pieces (length pieces) = λ k d below.
    rw add-one (stops_rise stop pieces k d joined (rw add-one at below)) in
    IsPartitionedBy-leb stop_of pieces position (IsNonDecreasingBy-from_all_adjacent stop_of pieces adjacent)

unfound : (position : ℕ) (piece : Run) (pieces : List Run) → has_position position piece ≡ false
    → find (has_position position) (piece ∷ pieces) ≡ find (has_position position) pieces
unfound position piece pieces test = ap (λ b. if b then Some piece else find (has_position position) pieces) test

-- a position is sought behind the pieces that end by it
find_behind : (position i : ℕ) (pieces : List Run) → i ≤ length pieces → AllWithin (λ piece. nat_le (stop_of piece) position ≡ true) pieces 0 i
    → find (has_position position) pieces ≡ find (has_position position) (drop i pieces)
find_behind position zero pieces within past = refl
find_behind position (suc i) [] within past = absurd (omega arith)
find_behind position (suc i) (piece ∷ pieces) within past =
    let here : nat_le (stop_of piece) position ≡ true = past 0 piece (omega arith) (omega arith) in
    let test : has_position position piece ≡ false = search (rules, tests) in
    unfound position piece pieces test ∙ find_behind position i pieces (omega arith) (λ k d low below. past (suc k) d (omega arith) (omega arith))

-- no piece has a position before them
find_before : (stop position : ℕ) (pieces : List Run) → JoinUpTo stop pieces → position < start_of stop pieces → find (has_position position) pieces ≡ None
find_before stop position [] joined before = refl
find_before stop position (piece ∷ pieces) joined before =
    let test : has_position position piece ≡ false = search (rules, tests) in
    unfound position piece pieces test ∙ find_before stop position pieces joined.2 (omega (arith, joined.0, joined.1))

-- the first piece has it
find_first : (position : ℕ) (piece : Run) (pieces : List Run) → piece.start ≤ position → nat_le (stop_of piece) position ≡ false
    → find (has_position position) (piece ∷ pieces) ≡ Some piece
find_first position piece pieces after before =
    let test : has_position position piece ≡ true = search (rules, tests) in
    ap (λ b. if b then Some piece else find (has_position position) pieces) test

-- the first pieces end by a position, and the others don't
abbrev pub EndBy : ℕ → List Run → ℕ → Type 0
EndBy position pieces place = IsPartitionPoint (λ piece. nat_le (stop_of piece) position ≡ true) (λ piece. nat_le (stop_of piece) position ≡ false) pieces place

-- all end by the position
pub find_none : (position place : ℕ) (pieces : List Run) → place ≤ length pieces → EndBy position pieces place → length pieces ≤ place
    → find (has_position position) pieces ≡ None
find_none position place pieces few ended past = find_behind position place pieces few ended.0 ∙ ap (find (has_position position)) (drop_all place pieces past)

next_piece : (pieces : List Run) (place : ℕ) (piece : Run) → place < length pieces → piece ≡ get_or pieces place piece
    → drop place pieces ≡ piece ∷ drop (place + 1) pieces
next_piece pieces place piece below is = drop_more pieces place piece below ∙ ap (λ p. p ∷ drop (place + 1) pieces) (sym is)

-- the next piece starts behind the position
pub find_past : (stop position place : ℕ) (pieces : List Run) (piece : Run) → JoinUpTo stop pieces → EndBy position pieces place → place < length pieces
    → piece ≡ get_or pieces place piece
    → position < piece.start → find (has_position position) pieces ≡ None
find_past stop position place pieces piece joined ended below is before =
    let split = next_piece pieces place piece below is in
    find_behind position place pieces (omega (arith, below)) ended.0
    ∙ find_before stop position (drop place pieces) (JoinUpTo-drop stop place pieces joined) (rw split before)

-- the next piece has it
pub find_here : (position place : ℕ) (pieces : List Run) (piece : Run) → EndBy position pieces place → place < length pieces → piece ≡ get_or pieces place piece
    → piece.start ≤ position → find (has_position position) pieces ≡ Some piece
find_here position place pieces piece ended below is after =
    let here : nat_le (stop_of piece) position ≡ false = ap (λ p. nat_le (stop_of p) position) is ∙ ended.1 place piece (omega arith) below in
    find_behind position place pieces (omega (arith, below)) ended.0
    ∙ ap (find (has_position position)) (next_piece pieces place piece below is)
    ∙ find_first position piece (drop (place + 1) pieces) after here

-- pieces that start at or behind a position are kept
pub kept_all : (stop position : ℕ) (pieces : List Run) → JoinUpTo stop pieces → position ≤ start_of stop pieces
    → filter (λ piece. nat_lt position (stop_of piece)) pieces ≡ pieces
kept_all stop position [] joined after = refl
kept_all stop position (piece ∷ pieces) joined after =
    let test : nat_lt position (stop_of piece) ≡ true = search (rules, tests) in
    ap (λ b. if b then piece ∷ filter (λ p. nat_lt position (stop_of p)) pieces else filter (λ p. nat_lt position (stop_of p)) pieces) test
    ∙ ap (λ ps. piece ∷ ps) (kept_all stop position pieces joined.2 (omega (arith, joined.0, joined.1)))

-- where the first piece is kept, all are
pub filter_kept : (stop position : ℕ) (pieces : List Run) (piece : Run) → JoinUpTo stop pieces → 0 < length pieces → piece ≡ get_or pieces 0 piece
    → nat_le (stop_of piece) position ≡ false
    → filter (λ p. nat_lt position (stop_of p)) pieces ≡ pieces
filter_kept stop position [] piece joined some is after = absurd (omega arith)
filter_kept stop position (first ∷ pieces) piece joined some is after =
    let here : nat_le (stop_of first) position ≡ false = ap (λ p. nat_le (stop_of p) position) (sym is) ∙ after in
    let test : nat_lt position (stop_of first) ≡ true = search (rules, tests) in
    let below : position < stop_of first = search (rules, tests) in
    ap (λ b. if b then first ∷ filter (λ p. nat_lt position (stop_of p)) pieces else filter (λ p. nat_lt position (stop_of p)) pieces) test
    ∙ ap (λ ps. first ∷ ps) (kept_all stop position pieces joined.2 (omega (arith, joined.1)))

-- and where it is given up, the others are left to sift
pub filter_given_up : (position : ℕ) (pieces : List Run) (piece : Run) → 0 < length pieces → piece ≡ get_or pieces 0 piece
    → nat_le (stop_of piece) position ≡ true
    → filter (λ p. nat_lt position (stop_of p)) (drop 1 pieces) ≡ filter (λ p. nat_lt position (stop_of p)) pieces
filter_given_up position [] piece some is by = absurd (omega arith)
filter_given_up position (first ∷ pieces) piece some is by =
    let here : nat_le (stop_of first) position ≡ true = ap (λ p. nat_le (stop_of p) position) (sym is) ∙ by in
    let test : nat_lt position (stop_of first) ≡ false = search (rules, tests) in
    sym (ap (λ b. if b then first ∷ filter (λ p. nat_lt position (stop_of p)) pieces else filter (λ p. nat_lt position (stop_of p)) pieces) test)
