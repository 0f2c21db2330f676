-- A rule has no own runs exactly where no connection meets it.
use Rattle.std.proofs.Common.{◌≡◌, ◌≢◌, ℕ, ◌+◌, ◌≤◌, inl, inr, ◌&&◌, Bool, true, false, cond, List, [], ◌∷◌, filter, map, Option, None, Some, arith, refl, sym}
use Rattle.std.proofs.Common.{ap, ◌∙◌}
use Rattle.std.proofs.lemmas.Bool.{and_from, and_right, eq-eqb, false≢true, le-leb, ne_eqb}
use Rattle.std.proofs.lemmas.Bool.Decides.{leb_tells}
use Rattle.tox_check.specs.Coverage.{cut_to_range, meets_rule, own_of, reaches, within}
use Rattle.tox_check.specs.Runs.{IsMetRun, IsRuns}
use Rattle.tox_check.specs.declared.run.Run.{Run}

own-cons : (rule first last : ℕ) (run : Run) (rest : List Run) → own_of rule (within first last (run ∷ rest))
    ≡ cond (reaches first last run && meets_rule rule run) (cut_to_range first last run ∷ own_of rule (within first last rest))
    (own_of rule (within first last rest))
own-cons rule first last run rest =
    elim (reaches first last run) as (λ b. own_of rule (map (cut_to_range first last)
    (cond b (run ∷ filter (reaches first last) rest) (filter (reaches first last) rest)))
    ≡ cond (b && meets_rule rule run) (cut_to_range first last run ∷ own_of rule (within first last rest)) (own_of rule (within first last rest))) [
      | true ↦ refl
      | false ↦ refl
    ]

none_first : (b : Bool) (run : Run) (rest : List Run) → cond b (run ∷ rest) rest ≡ [] → (b ≡ false) × (rest ≡ [])
none_first true run rest none = absurd (cc)
none_first false run rest none = (refl, none)

-- no own runs: no connection of the range meets the rule
pub none_meets : (met : ℕ → Option ℕ) (rule first last at : ℕ) (runs : List Run) → IsRuns met at runs → own_of rule (within first last runs) ≡ []
    → (conn : ℕ) → at ≤ conn → conn ≤ 1_000_000 → first ≤ conn → conn ≤ last → met conn ≢ Some rule
none_meets met rule first last at [] are none conn from most begins ends meets =
    let nothing : met conn ≡ None = are conn from (omega arith) in absurd (cc)
none_meets met rule first last at (run ∷ rest) are none conn from most begins ends same =
    let parts = none_first (reaches first last run && meets_rule rule run) (cut_to_range first last run) (own_of rule (within first last rest))
    (sym (own-cons rule first last run rest) ∙ none) in
    elim (leb_tells run.first conn) [
      | inl behind ↦ elim (leb_tells conn run.last) [
        | inl inside ↦
            let here : met conn ≡ Some run.rule = are.1.1.0.meet conn behind.1 inside.1 in
            let own : run.rule ≡ rule = cc in
            let reached : reaches first last run ≡ true =
            let a = behind.1 in let b = inside.1 in and_from _ _ (le-leb first run.last (omega arith)) (le-leb run.first last (omega arith)) in
            absurd (false≢true (sym parts.0 ∙ and_from _ _ reached (eq-eqb run.rule rule own)))
        | inr later ↦ let a = later.1 in none_meets met rule first last (run.last + 1) rest are.1.1.1 parts.1 conn (omega arith) most begins ends same
      ]
      | inr before ↦
          let a = before.1 in
          let nothing : met conn ≡ None = are.1.0 conn from (omega arith) in
          absurd (cc)
    ]

-- no connection meets the rule: it has no own runs
pub none_own : (met : ℕ → Option ℕ) (rule first last at : ℕ) (runs : List Run) → IsRuns met at runs → 1 ≤ at
    → ((conn : ℕ) → 1 ≤ conn → conn ≤ 1_000_000 → met conn ≢ Some rule) → own_of rule (within first last runs) ≡ []
none_own met rule first last at [] are begins never = refl
none_own met rule first last at (run ∷ rest) are begins never =
    let from = are.0 in
    let whole : IsMetRun met run = are.1.1.0 in
    let some = whole.some in
    let most = whole.numbered in
    let here : met run.first ≡ Some run.rule = whole.meet run.first (omega arith) some in
    let other : run.rule ≢ rule = λ same. never run.first (omega arith) (omega arith) (here ∙ ap (λ r. Some r) same) in
    own-cons rule first last run rest
    ∙ ap (λ b. cond b (cut_to_range first last run ∷ own_of rule (within first last rest)) (own_of rule (within first last rest)))
    (and_right (reaches first last run) (meets_rule rule run) (ne_eqb run.rule rule other))
    ∙ none_own met rule first last (run.last + 1) rest are.1.1.1 (omega arith) never
