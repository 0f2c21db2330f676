-- Steps laid over others, one step at a time.
use Rattle.std.proofs.Common.{◌≡◌, ℕ, ◌+◌, ◌^◌, ◌<◌, ◌≤◌, ◌⊎◌, inl, inr, max, true, false, cond, List, [], ◌∷◌, ◌++◌, length, Option, Some, None, leb, arith}
use Rattle.std.proofs.Common.{refl, sym, ap, ◌∙◌}
use Rattle.std.proofs.lemmas.Bool.{le-leb, lt-leb, eq-eqb}
use Rattle.std.proofs.lemmas.Bool.Decides.{eqb_tells, leb_tells}
use Rattle.std.specs.Option.{option_or}
use Rattle.tox_script.specs.declared.index.step.Step.{Step}
use Rattle.tox_script.specs.index.Overlay.{latest_step, rule_in, without_latest}
use Rattle.tox_script.specs.index.Steps.{Descends, rule_at}

-- the rule of a connection, where later steps follow that give this rule
abbrev pub rule_or : ℕ → Option ℕ → List Step → Option ℕ
rule_or conn later [] = later
rule_or conn later (step ∷ steps) = cond (leb step.first conn) step.rule (rule_or conn later steps)

-- one more step behind the others
pub rule_or-push : (conn : ℕ) (later : Option ℕ) (steps : List Step) (step : Step)
    → rule_or conn later (steps ++ step ∷ []) ≡ rule_or conn (cond (leb step.first conn) step.rule later) steps
rule_or-push conn later [] step = refl
rule_or-push conn later (s ∷ steps) step = ap (λ rule. cond (leb s.first conn) s.rule rule) (rule_or-push conn later steps step)

-- no step follows
pub rule_or-none : (conn : ℕ) (steps : List Step) → rule_or conn None steps ≡ rule_at conn steps
rule_or-none conn [] = refl
rule_or-none conn (s ∷ steps) = ap (λ rule. cond (leb s.first conn) s.rule rule) (rule_or-none conn steps)

-- the latest of some steps begins by this connection
abbrev IsBy : ℕ → List Step → Type 0
IsBy first [] = Unit {0}
IsBy first (step ∷ steps) = step.first ≤ first

-- a connection from the latest step on has its rule
rule_at-from : (conn first : ℕ) (steps : List Step) → IsBy first steps → first ≤ conn → rule_at conn steps ≡ rule_in steps
rule_at-from conn first [] by from = refl
rule_at-from conn first (step ∷ steps) by from = let here : leb step.first conn ≡ true = le-leb step.first conn (omega arith) in
    ap (λ b. cond b step.rule (rule_at conn steps)) here

-- a connection before a latest step has its rule in the other steps
rule_at-before : (conn first : ℕ) (steps : List Step) → conn < first → rule_at conn steps ≡ rule_at conn (without_latest first steps)
rule_at-before conn first [] before = refl
rule_at-before conn first (step ∷ steps) before = elim (eqb_tells step.first first) [
  | inl same ↦
      let here : leb step.first conn ≡ false = lt-leb step.first conn (let e = same.1 in omega arith) in
      ap (λ b. cond b step.rule (rule_at conn steps)) here
      ∙ ap (λ b. rule_at conn (cond b steps (step ∷ steps))) (sym same.0)
  | inr other ↦ ap (λ b. rule_at conn (cond b steps (step ∷ steps))) (sym other.0)
]

-- behind a latest step the steps descend from it
Descends-without_latest : (floor first : ℕ) (steps : List Step) → Descends floor steps → IsBy first steps → Descends first (without_latest first steps)
Descends-without_latest floor first [] down by = tt
Descends-without_latest floor first (step ∷ steps) down by = elim (eqb_tells step.first first) [
  | inl same ↦ let P : ℕ → Type 0 = λ n. Descends n steps in
      rw same.0 (rw same.1 at down.1)
  | inr other ↦ rw other.0 (by, down.1)
]

-- none is added, and a latest step that begins there goes
length-behind_most : (first : ℕ) (steps : List Step) → length (without_latest first steps) ≤ length steps
length-behind_most first [] = omega arith
length-behind_most first (step ∷ steps) = elim (eqb_tells step.first first) [ inl same ↦ rw same.0 (omega arith) | inr other ↦ rw other.0 (omega arith) ]

length-behind_here : (step : Step) (steps : List Step) (first : ℕ) → step.first ≡ first → length (without_latest first (step ∷ steps)) ≡ length steps
length-behind_here step steps first same = rw (eq-eqb step.first first same) refl

-- the later of two connections is one of them
max_either : (a b : ℕ) → (a ≡ max a b) ⊎ (b ≡ max a b)
max_either a b = elim (leb_tells a b) [ inl below ↦ inr (let h = below.1 in omega arith) | inr above ↦ inl (let h = above.1 in omega arith) ]

-- what is known of the latest step of steps laid over others
pub record IsJoined (above below : List Step) (step : Step) : Type 0 where
  pub above_by : IsBy step.first above
  pub below_by : IsBy step.first below
  pub rule : step.rule ≡ option_or (rule_in above) (rule_in below)
  pub floor : (n : ℕ) → Descends n above → Descends n below → step.first ≤ n
  pub fewer : length (without_latest step.first above) + length (without_latest step.first below) < length above + length below

pub joined_none : (above below : List Step) → latest_step above below ≡ None → (above ≡ []) × (below ≡ [])
joined_none [] [] none = (refl, refl)
joined_none [] (lower ∷ below) none = absurd (cc)
joined_none (upper ∷ above) [] none = absurd (cc)
joined_none (upper ∷ above) (lower ∷ below) none = absurd (cc)

one_fewer : (upper lower : Step) (above below : List Step) (first : ℕ) → (upper.first ≡ first) ⊎ (lower.first ≡ first)
    → length (without_latest first (upper ∷ above)) + length (without_latest first (lower ∷ below)) < length (upper ∷ above) + length (lower ∷ below)
one_fewer upper lower above below first either = elim either [
  | inl here ↦ omega (arith, length-behind_here upper above first here, length-behind_most first (lower ∷ below))
  | inr here ↦ omega (arith, length-behind_here lower below first here, length-behind_most first (upper ∷ above))
]

joined_step : (above below : List Step) (first : ℕ) (rule : Option ℕ) → latest_step above below ≡ Some (record { first = first; rule = rule })
    → IsJoined above below (record { first = first; rule = rule })
joined_step [] [] first rule some = absurd (cc)
joined_step [] (lower ∷ below) first rule some =
    let same : lower ≡ record { first = first; rule = rule } = cc in
    let here : lower.first ≡ first = ap (λ (s : Step). s.first) same in
    record {
      above_by = tt;
      below_by = omega arith;
      rule = sym (ap (λ (s : Step). s.rule) same);
      floor = λ n high low. let h = low.0 in omega arith;
      fewer = omega (arith, length-behind_here lower below first here);
    }
joined_step (upper ∷ above) [] first rule some =
    let same : record { first = upper.first; rule = option_or upper.rule None } ≡ record { first = first; rule = rule } = cc in
    let here : upper.first ≡ first = ap (λ (s : Step). s.first) same in
    record {
      above_by = omega arith;
      below_by = tt;
      rule = sym (ap (λ (s : Step). s.rule) same);
      floor = λ n high low. let h = high.0 in omega arith;
      fewer = omega (arith, length-behind_here upper above first here);
    }
joined_step (upper ∷ above) (lower ∷ below) first rule some =
    let same : record { first = max upper.first lower.first; rule = option_or upper.rule lower.rule } ≡ record { first = first; rule = rule } = cc in
    let here : max upper.first lower.first ≡ first = ap (λ (s : Step). s.first) same in
    record {
      above_by = omega arith;
      below_by = omega arith;
      rule = sym (ap (λ (s : Step). s.rule) same);
      floor = λ n high low. let h = high.0 in let k = low.0 in omega arith;
      fewer = one_fewer upper lower above below first (elim (max_either upper.first lower.first) [ inl is ↦ inl (is ∙ here) | inr is ↦ inr (is ∙ here) ]);
    }

pub joined_some : (above below : List Step) (step : Step) → latest_step above below ≡ Some step → IsJoined above below step
joined_some above below step some = joined_step above below step.first step.rule some

-- a connection has its rule in the latest step, or else in what is left
pub rule_at-latest_step : (conn : ℕ) (above below : List Step) (step : Step) → IsJoined above below step
    → cond (leb step.first conn) step.rule (option_or (rule_at conn (without_latest step.first above)) (rule_at conn (without_latest step.first below)))
    ≡ option_or (rule_at conn above) (rule_at conn below)
rule_at-latest_step conn above below step is = elim (leb_tells step.first conn) [
  | inl from ↦
      let up = rule_at-from conn step.first above is.above_by from.1 in
      let low = rule_at-from conn step.first below is.below_by from.1 in
      ap (λ b. cond b step.rule (option_or (rule_at conn (without_latest step.first above)) (rule_at conn (without_latest step.first below)))) from.0
      ∙ is.rule ∙ sym (ap (λ rule. option_or rule (rule_at conn below)) up ∙ ap (option_or (rule_in above)) low)
  | inr before ↦
      let up = rule_at-before conn step.first above before.1 in
      let low = rule_at-before conn step.first below before.1 in
      ap (λ b. cond b step.rule (option_or (rule_at conn (without_latest step.first above)) (rule_at conn (without_latest step.first below)))) before.0
      ∙ sym (ap (λ rule. option_or rule (rule_at conn below)) up ∙ ap (option_or (rule_at conn (without_latest step.first above))) low)
]

-- the steps begin by one connection and descend to another
abbrev pub DescendsTo : ℕ → ℕ → List Step → Type 0
DescendsTo most floor [] = floor ≤ most
DescendsTo most floor (step ∷ steps) = (step.first ≤ most) × DescendsTo step.first floor steps

pub DescendsTo-push : (most floor : ℕ) (steps : List Step) (step : Step) → DescendsTo most floor steps → step.first ≤ floor
    → DescendsTo most step.first (steps ++ step ∷ [])
DescendsTo-push most floor [] step down by = (omega arith, omega arith)
DescendsTo-push most floor (s ∷ steps) step down by = (down.0, DescendsTo-push s.first floor steps step down.1 by)

pub Descends-whole : (most floor : ℕ) (steps : List Step) → DescendsTo most floor steps → Descends most steps
Descends-whole most floor [] down = tt
Descends-whole most floor (s ∷ steps) down = (down.0, Descends-whole s.first floor steps down.1)

-- what holds at a turn of the loop: some steps are laid, and these are left of both
pub record IsLaid (upper lower steps above below : List Step) : Type 0 where
  pub found : (conn : ℕ) → rule_or conn (option_or (rule_at conn above) (rule_at conn below)) steps ≡ option_or (rule_at conn upper) (rule_at conn lower)
  pub floor : ℕ
  pub down : DescendsTo (2 ^ 64) floor steps
  pub above_down : Descends floor above
  pub below_down : Descends floor below

pub IsLaid-none : (upper lower : List Step) → Descends (2 ^ 64) upper → Descends (2 ^ 64) lower → IsLaid upper lower [] upper lower
IsLaid-none upper lower high low = record { found = λ conn. refl; floor = 2 ^ 64; down = omega arith; above_down = high; below_down = low }

pub IsLaid-next : (upper lower steps above below : List Step) (step : Step) → IsLaid upper lower steps above below → IsJoined above below step
    → IsLaid upper lower (steps ++ step ∷ []) (without_latest step.first above) (without_latest step.first below)
IsLaid-next upper lower steps above below step laid is = record {
  found = λ conn.
      rule_or-push conn (option_or (rule_at conn (without_latest step.first above)) (rule_at conn (without_latest step.first below))) steps step
      ∙ ap (λ later. rule_or conn later steps) (rule_at-latest_step conn above below step is)
      ∙ laid.found conn;
  floor = step.first;
  down = DescendsTo-push (2 ^ 64) laid.floor steps step laid.down (is.floor laid.floor laid.above_down laid.below_down);
  above_down = Descends-without_latest laid.floor step.first above laid.above_down is.above_by;
  below_down = Descends-without_latest laid.floor step.first below laid.below_down is.below_by;
}

pub IsLaid-last : (upper lower steps above below : List Step) → IsLaid upper lower steps above below → latest_step above below ≡ None
    → (conn : ℕ) → rule_at conn steps ≡ option_or (rule_at conn upper) (rule_at conn lower)
IsLaid-last upper lower steps above below laid none conn =
    let ends = joined_none above below none in
    sym (rule_or-none conn steps)
    ∙ ap (λ rule. rule_or conn rule steps) (sym (ap (λ xs. option_or (rule_at conn xs) (rule_at conn below)) ends.0
    ∙ ap (λ xs. option_or None (rule_at conn xs)) ends.1))
    ∙ laid.found conn
