-- The connections of runs, in the parts in which they are printed.
use Rattle.std.proofs.Common.{◌≡◌, ℕ, ◌≤◌, List, [], ◌∷◌, ◌++◌, append-nil, codes, length, drop, get_or, arith, refl}
use Rattle.tox_check.specs.Sentences.{meet_text, meet_unless, range_text, ranges_text, taken_text}
use Rattle.tox_check.specs.declared.run.Run.{Run}

-- the other runs, behind the first
abbrev pub ranges_behind : List Run → List ℕ
ranges_behind [] = []
ranges_behind (next ∷ runs) = codes ", " ++ ranges_text (next ∷ runs)

pub ranges_text-first : (runs : List Run) (d : Run) → 1 ≤ length runs → range_text (get_or runs 0 d) ++ ranges_behind (drop 1 runs) ≡ ranges_text runs
ranges_text-first [] d some = absurd (omega arith)
ranges_text-first (run ∷ []) d some = append-nil (range_text run)
ranges_text-first (run ∷ next ∷ runs) d some = refl

pub ranges_text-more : (runs : List Run) (d : Run) → 1 ≤ length runs → 1 ≤ length (drop 1 runs)
    → range_text (get_or runs 0 d) ++ (codes ", " ++ ranges_text (drop 1 runs)) ≡ ranges_text runs
ranges_text-more [] d some more = absurd (omega arith)
ranges_text-more (run ∷ []) d some more = absurd (omega arith)
ranges_text-more (run ∷ next ∷ runs) d some more = refl

-- the rule of a run, and the other runs with theirs
abbrev pub taken_behind : ℕ → List Run → List ℕ
taken_behind rule [] = meet_text rule
taken_behind rule (next ∷ runs) = meet_unless rule next.rule ++ (codes ", " ++ taken_text (next ∷ runs))

pub taken_text-first : (runs : List Run) (d : Run) → 1 ≤ length runs → range_text (get_or runs 0 d) ++ taken_behind (get_or runs 0 d).rule (drop 1 runs)
    ≡ taken_text runs
taken_text-first [] d some = absurd (omega arith)
taken_text-first (run ∷ []) d some = refl
taken_text-first (run ∷ next ∷ runs) d some = refl

pub taken_text-last : (runs : List Run) (d : Run) → 1 ≤ length runs → length (drop 1 runs) ≡ 0
    → range_text (get_or runs 0 d) ++ meet_text (get_or runs 0 d).rule ≡ taken_text runs
taken_text-last [] d some none = absurd (omega arith)
taken_text-last (run ∷ []) d some none = refl
taken_text-last (run ∷ next ∷ runs) d some none = absurd (omega arith)

pub taken_text-more : (runs : List Run) (d e : Run) → 1 ≤ length runs → 1 ≤ length (drop 1 runs)
    → range_text (get_or runs 0 d) ++ (meet_unless (get_or runs 0 d).rule (get_or (drop 1 runs) 0 e).rule ++ (codes ", " ++ taken_text (drop 1 runs)))
    ≡ taken_text runs
taken_text-more [] d e some more = absurd (omega arith)
taken_text-more (run ∷ []) d e some more = absurd (omega arith)
taken_text-more (run ∷ next ∷ runs) d e some more = refl
