-- The latest step that doesn't begin behind a connection, found by halving.
use Rattle.std.proofs.Common.{◌≡◌, ℕ, zero, suc, ◌<◌, ◌≤◌, inl, inr, true, false, cond, List, [], ◌∷◌, length, None, get_or, ltb, arith, refl, ap, ◌∙◌}
use Rattle.std.proofs.lemmas.Bool.{le-leb, lt-leb}
use borrow.Author.Tests.{ltb-true}
use Rattle.std.proofs.lemmas.Bool.Decides.{leb_tells}
use Rattle.tox_script.specs.declared.index.step.Step.{Step}
use Rattle.tox_script.specs.index.Steps.{Descends, rule_at}

below_most : (most : ℕ) (steps : List Step) → Descends most steps → (j : ℕ) (d : Step) → j < length steps → (get_or steps j d).first ≤ most
below_most most [] down j d within = absurd (omega arith)
below_most most (step ∷ steps) down zero d within = down.0
below_most most (step ∷ steps) down (suc j) d within = let h = below_most step.first steps down.1 j d (omega arith) in let k = down.0 in omega arith

-- no step begins behind an earlier one of the list
descending : (most : ℕ) (steps : List Step) → Descends most steps → (i j : ℕ) (d : Step) → i ≤ j → j < length steps
    → (get_or steps j d).first ≤ (get_or steps i d).first
descending most [] down i j d by within = absurd (omega arith)
descending most (step ∷ steps) down zero zero d by within = omega arith
descending most (step ∷ steps) down zero (suc j) d by within = below_most step.first steps down.1 j d (omega arith)
descending most (step ∷ steps) down (suc i) zero d by within = absurd (omega arith)
descending most (step ∷ steps) down (suc i) (suc j) d by within = descending step.first steps down.1 i j d (omega arith) (omega arith)

-- the steps that begin behind a connection come first
pub later_first : (most conn : ℕ) (steps : List Step) → Descends most steps → (i j : ℕ) (d : Step) → i ≤ j → j < length steps
    → ltb conn (get_or steps j d).first ≡ true → ltb conn (get_or steps i d).first ≡ true
later_first most conn steps down i j d by within later =
    let order = descending most steps down i j d by within in
    let behind : conn < (get_or steps j d).first = ltb-true conn (get_or steps j d).first later in
    le-leb (suc conn) (get_or steps i d).first (omega arith)

-- the rule of a connection is that of the step behind those that begin later, if there is one
module _ (conn : ℕ) where
  abbrev pub Later : List Step → ℕ → Type 0
  Later steps i = ((k : ℕ) (d : Step) → 0 ≤ k → k < i → ltb conn (get_or steps k d).first ≡ true)
      × ((k : ℕ) (d : Step) → i ≤ k → k < length steps → ltb conn (get_or steps k d).first ≡ false)

  Later-rest : (step : Step) (steps : List Step) (i : ℕ) → Later (step ∷ steps) (suc i) → Later steps i
  Later-rest step steps i later = (
    λ k d from below. later.0 (suc k) d (omega arith) (omega arith),
    λ k d from below.
        later.1 (suc k) d (omega arith) (omega arith),
  )

  passed : (step : Step) (steps : List Step) (i : ℕ) → Later (step ∷ steps) (suc i) → rule_at conn (step ∷ steps) ≡ rule_at conn steps
  passed step steps i later =
      let behind : conn < step.first = ltb-true conn step.first (later.0 0 step (omega arith) (omega arith)) in
      ap (λ b. cond b step.rule (rule_at conn steps)) (lt-leb step.first conn behind)

  pub rule_at-found : (steps : List Step) (i : ℕ) (d : Step) → Later steps i → i < length steps → rule_at conn steps ≡ (get_or steps i d).rule
  rule_at-found [] i d later within = absurd (omega arith)
  rule_at-found (step ∷ steps) zero d later within =
      elim (leb_tells (suc conn) step.first) [
        | inl behind ↦ let not_behind = later.1 0 step (omega arith) (omega arith) in absurd (cc)
        | inr by ↦ ap (λ b. cond b step.rule (rule_at conn steps)) (le-leb step.first conn (let h = by.1 in omega arith))
      ]
  rule_at-found (step ∷ steps) (suc i) d later within = passed step steps i later ∙ rule_at-found steps i d (Later-rest step steps i later) (omega arith)

  pub rule_at-past : (steps : List Step) (i : ℕ) → Later steps i → length steps ≤ i → rule_at conn steps ≡ None
  rule_at-past [] i later past = refl
  rule_at-past (step ∷ steps) zero later past = absurd (omega arith)
  rule_at-past (step ∷ steps) (suc i) later past = passed step steps i later ∙ rule_at-past steps i (Later-rest step steps i later) (omega arith)
