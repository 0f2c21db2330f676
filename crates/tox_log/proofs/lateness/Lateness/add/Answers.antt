-- A value more.
use Rattle.std.specs.Prelude.{◌⊎◌}
use Rattle.std.proofs.Common.{◌≡◌, ◌≢◌, ℕ, ◌+◌, ◌<◌, ◌≤◌, List, [], ◌∷◌, ◌++◌, inl, inr, length, max, refl, sym, ◌∙◌, ap, arith, length-append, eq-or-lt_of_le}
use Rattle.std.proofs.lemmas.List.Sums.{fold-append}
use Rattle.tox_log.proofs.lateness.Lateness.add.Goals as goal

-- what is kept of the values
abbrev Each : List ℕ → List ℕ → List ℕ → Type 0
Each values each buckets = (buckets ≡ [] → (each ≡ values) × (length values ≤ 1048576)) × (buckets ≢ [] → 1048576 < length values)

one-more : (values each new buckets more : List ℕ) (value : ℕ) → Each values each buckets
    → (buckets ≡ [] → length each < 1048576 → (more ≡ []) × (new ≡ each ++ value ∷ []))
    → (buckets ≡ [] → 1048576 ≤ length each → more ≢ []) → (buckets ≢ [] → more ≢ []) → Each (values ++ value ∷ []) new more
one-more values each new (bucket ∷ buckets) more value kept one over stays =
    let some : bucket ∷ buckets ≢ [] = λ same. cc in
    let count = length-append values (value ∷ []) in
    let many = kept.1 some in
    (λ none. absurd (stays some none), λ _. omega (arith, count, many))
one-more values each new [] more value kept one over stays = here (eq-or-lt_of_le (kept.0 refl).1)
  where
    count : length (values ++ value ∷ []) ≡ length values + 1
    count = length-append values (value ∷ [])

    here : (length values ≡ 1048576) ⊎ (length values < 1048576) → Each (values ++ value ∷ []) new more
    here (inl full) =
        let some : more ≢ [] = over refl (omega (arith, full, ap length (kept.0 refl).0)) in
        (λ none. absurd (some none), λ _. omega (arith, count, full))
    here (inr few) =
        let next = one refl (omega (arith, few, ap length (kept.0 refl).0)) in
        (λ none. (next.1 ∙ ap (λ values. values ++ value ∷ []) (kept.0 refl).0, omega (arith, count, few)), λ some. absurd (some next.0))

pub returns : goal.returns
returns c = λ values few kept.
    let each = one-more values c.args.self.now.values.items c.keep.new.self.values.items c.args.self.now.buckets.items c.keep.new.self.buckets.items
    c.args.value (kept.each, kept.many)
    c.in_ok-keep.ensures.one c.in_ok-keep.ensures.over c.in_ok-keep.ensures.stays in
    let count = length-append values (c.args.value ∷ []) in
    record {
      count = omega (arith, count, kept.count, few, c.saturating_add-self.ensures);
      greatest = omega (arith, c.max-self.ensures, kept.greatest, c.in_ok-keep.ensures.same) ∙ sym (fold-append max 0 values (c.args.value ∷ []));
      each = each.0;
      many = each.1;
    }
