-- Runs that are cut to a range.
use Rattle.std.proofs.Common.{◌≡◌, ℕ, ◌<◌, ◌≤◌, ◌⊎◌, inl, inr, true, false, cond, List, [], ◌∷◌, ◌++◌, filter, map, max, min, arith, refl, ap, ◌∙◌}
use Rattle.std.proofs.lemmas.List.Elements.{All-head, All-tail, filter-append}
use Rattle.std.proofs.lemmas.List.{map-append}
use Rattle.std.specs.List.{All}
use Rattle.tox_check.specs.Coverage.{cut_to_range, reaches, within}
use Rattle.tox_check.specs.Summary.{Lies}
use Rattle.tox_check.specs.declared.run.Run.{Run}

-- a run by its fields
abbrev run_of : ℕ → ℕ → ℕ → Run
run_of first last rule = record { first = first; last = last; rule = rule }

pub within-append : (first last : ℕ) (xs ys : List Run) → within first last (xs ++ ys) ≡ within first last xs ++ within first last ys
within-append first last xs ys = ap (map (cut_to_range first last)) (filter-append (reaches first last) xs ys)
    ∙ map-append (cut_to_range first last) (filter (reaches first last) xs) (filter (reaches first last) ys)

pub within_none : (first last from to : ℕ) (runs : List Run) → All (Lies from to) runs → (to < first) ⊎ (last < from) → within first last runs ≡ []
within_none first last from to [] each apart = refl
within_none first last from to (run ∷ runs) each apart =
    let lies : Lies from to run = All-head (Lies from to) run runs each in
    let misses : reaches first last run ≡ false = elim apart [ inl before ↦ let a = lies.1.1 in grind arith | inr behind ↦ let a = lies.0 in grind arith ] in
    ap (λ b. map (cut_to_range first last) (cond b (run ∷ filter (reaches first last) runs) (filter (reaches first last) runs))) misses
    ∙ within_none first last from to runs (All-tail (Lies from to) run runs each) apart

pub within_all : (first last from to : ℕ) (runs : List Run) → All (Lies from to) runs → first ≤ from → to ≤ last → within first last runs ≡ runs
within_all first last from to [] each begins ends = refl
within_all first last from to (run ∷ runs) each begins ends =
    let lies : Lies from to run = All-head (Lies from to) run runs each in
    let a = lies.0 in
    let b = lies.1.0 in
    let c = lies.1.1 in
    let hits : reaches first last run ≡ true = grind arith in
    let begin : max run.first first ≡ run.first = omega arith in
    let end : min run.last last ≡ run.last = omega arith in
    let same : cut_to_range first last run ≡ run = ap (λ x. run_of x (min run.last last) run.rule) begin ∙ ap (λ x. run_of run.first x run.rule) end in
    ap (λ b. map (cut_to_range first last) (cond b (run ∷ filter (reaches first last) runs) (filter (reaches first last) runs))) hits
    ∙ ap (λ x. x ∷ within first last runs) same
    ∙ ap (λ rest. run ∷ rest) (within_all first last from to runs (All-tail (Lies from to) run runs each) begins ends)
