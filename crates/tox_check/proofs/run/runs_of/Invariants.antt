-- The runs of the connections behind those that are left, which have their rules by the steps that are left.
use Rattle.std.proofs.Common.{◌≡◌, ℕ, ◌+◌, ◌≤◌, drop}
use Rattle.tox_script.specs.index.Steps.{rule_at}
use Rattle.tox_check.specs.Runs.{IsRuns, number_at}
use Rattle.tox_check.proofs.run.runs_of.Given as goal

abbrev pub invariant-loop-step : goal.invariant-loop-step
invariant-loop-step l = record {
  most : l.until ≤ 1_000_000;
  runs : IsRuns (λ conn. number_at conn l.steps) (l.until + 1) l.joining;
  rest : (conn : ℕ) → 1 ≤ conn → conn ≤ l.until → rule_at conn (drop l.step-index l.steps) ≡ rule_at conn l.steps;
}
