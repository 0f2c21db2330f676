-- The connections of a step ahead of the runs of all connections behind them.
use Rattle.std.proofs.Common.{◌≡◌, ℕ, ◌+◌, ◌-◌, ◌<◌, ◌≤◌, inl, inr, cond, List, ◌∷◌, length, get_or, drop, max, min, Option, None, Some, add-one, drop-cons}
use Rattle.std.proofs.Common.{arith, refl, sym, ap, ◌∙◌}
use Rattle.std.specs.Prelude.{option_map}
use Rattle.std.proofs.lemmas.Bool.{le-leb, lt-leb}
use Rattle.std.proofs.lemmas.Bool.Decides.{leb_tells}
use Rattle.tox_script.specs.declared.index.step.Step.{Step}
use Rattle.tox_script.specs.index.Steps.{rule_at}
use Rattle.tox_check.specs.Runs.{IsRuns, number_at, rule_ahead, step_ahead}
use Rattle.tox_check.specs.declared.run.Run.{Run}
use Rattle.tox_check.proofs.Joined.{IsRuns-earlier, ahead_runs}

-- a connection from the step's first on has its rule
pub rule_at-here : (conn : ℕ) (step : Step) (rest : List Step) → step.first ≤ conn → rule_at conn (step ∷ rest) ≡ step.rule
rule_at-here conn step rest by = ap (λ b. cond b step.rule (rule_at conn rest)) (le-leb step.first conn by)

-- a connection before the step's first has that of the steps behind
pub rule_at-behind : (conn : ℕ) (step : Step) (rest : List Step) → conn < step.first → rule_at conn (step ∷ rest) ≡ rule_at conn rest
rule_at-behind conn step rest before = ap (λ b. cond b step.rule (rule_at conn rest)) (lt-leb step.first conn before)

-- the steps from one on are that one and those behind it
pub rule_at-drop : (conn i : ℕ) (steps : List Step) (d : Step) → i < length steps
    → rule_at conn (drop i steps) ≡ rule_at conn (get_or steps i d ∷ drop (i + 1) steps)
rule_at-drop conn i steps d within =
    let parts : drop i steps ≡ get_or steps i d ∷ drop (i + 1) steps = rw (add-one, drop-cons steps i d) in
    ap (rule_at conn) parts

module _ (steps rest : List Step) (step : Step) (until : ℕ) (same : (conn : ℕ) → 1 ≤ conn → conn ≤ until → rule_at conn (step ∷ rest) ≡ rule_at conn steps)
  where
    here : (conn : ℕ) → max step.first 1 ≤ conn → conn ≤ until → number_at conn steps ≡ option_map (λ rule. rule + 1) step.rule
    here conn from to = ap (option_map (λ rule. rule + 1)) (sym (same conn (omega arith) to) ∙ rule_at-here conn step rest (omega arith))

    put : (runs : List Run) (rule : Option ℕ) → step.rule ≡ rule → until ≤ 1_000_000 → IsRuns (λ conn. number_at conn steps) (until + 1) runs
        → IsRuns (λ conn. number_at conn steps) (min until (step.first - 1) + 1) (rule_ahead rule step.first until runs)
    put runs None is most whole =
        IsRuns-earlier (λ conn. number_at conn steps) (min until (step.first - 1) + 1) (until + 1) runs (omega arith) (omega arith)
        (λ conn from to. here conn (omega arith) (omega arith) ∙ ap (option_map (λ rule. rule + 1)) is) whole
    put runs (Some rule) is most whole = elim (leb_tells (max step.first 1) until) [
      | inl some ↦
          let begin : min until (step.first - 1) + 1 ≡ max step.first 1 = omega arith in
          let run : Run = record { first = max step.first 1; last = until; rule = rule + 1 } in
          rw begin
          (rw (le-leb (max step.first 1) until some.1)
          (ahead_runs (λ conn. number_at conn steps) run runs some.1 most (λ conn from to. here conn from to ∙ ap (option_map (λ rule. rule + 1)) is) whole))
      | inr none ↦
          let before : until < max step.first 1 = let h = none.1 in omega arith in
          let begin : min until (step.first - 1) + 1 ≡ until + 1 = omega arith in
          rw begin (rw (lt-leb (max step.first 1) until before) whole)
    ]

    pub step_runs : (runs : List Run) → until ≤ 1_000_000 → IsRuns (λ conn. number_at conn steps) (until + 1) runs
        → IsRuns (λ conn. number_at conn steps) (min until (step.first - 1) + 1) (step_ahead step until runs)
    step_runs runs most whole = put runs step.rule refl most whole
