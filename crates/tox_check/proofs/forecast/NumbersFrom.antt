-- Numbers in order, by their index.
use Rattle.std.proofs.Common.{◌≡◌, ℕ, zero, suc, ◌+◌, ◌<◌, ◌≤◌, inl, inr, [], ◌∷◌, length, get_or, arith, refl, sym, ap, ◌∙◌, length-append, subst}
use Rattle.std.proofs.Math.Nat.{eq-or-lt_of_le}
use Rattle.std.proofs.lemmas.List.{get_or_append_left, get_or_at}
use Rattle.tox_text.proofs.Listed.{IsAt}
use Rattle.tox_check.specs.forecast.Counted.{numbers_from}

pub length-numbers_from : (first n : ℕ) → length (numbers_from first n) ≡ n
length-numbers_from first zero = refl
length-numbers_from first (suc n) = omega (arith, length-numbers_from first n, length-append (numbers_from first n) ((n + first) ∷ []))

get_or-numbers_from : (first n k d : ℕ) → k < n → get_or (numbers_from first n) k d ≡ k + first
get_or-numbers_from first zero k d below = absurd (omega arith)
get_or-numbers_from first (suc n) k d below =
    let by : suc k ≤ suc n = omega arith in
    elim (eq-or-lt_of_le by) [
      | inl same ↦
          let last : k ≡ n = omega arith in
          get_or_at (numbers_from first n) (n + first) [] d k (length-numbers_from first n ∙ sym last) ∙ ap (λ i. i + first) (sym last)
      | inr earlier ↦
          let within : k < length (numbers_from first n) = omega (arith, length-numbers_from first n) in
          get_or_append_left (numbers_from first n) ((n + first) ∷ []) d k within ∙ get_or-numbers_from first n k d (omega arith)
    ]

pub IsAt-numbers_from : (first n k : ℕ) → k < n → IsAt (numbers_from first n) k (k + first)
IsAt-numbers_from first n k below = record {
  below = omega (arith, length-numbers_from first n);
  default = 0;
  is = sym (get_or-numbers_from first n k 0 below);
}

-- a number from 0 on stands at itself
pub IsAt-numbers_from_0 : (n k : ℕ) → k < n → IsAt (numbers_from 0 n) k k
IsAt-numbers_from_0 n k below = let same : k + 0 ≡ k = omega arith in let P : ℕ
    → Type 0 = λ i. IsAt (numbers_from 0 n) k i in subst P same (IsAt-numbers_from 0 n k below)
