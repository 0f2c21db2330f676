-- Runs of connections that meet one rule.
use Rattle.std.specs.Prelude.{◌≡◌, ◌≢◌, ℕ, ◌+◌, ◌==◌, ◌<◌, ◌≤◌, ◌&&◌, Bool, List, [], ◌∷◌, max, nat_le, ◌^◌, Option, None, Some, option_map, if◌then◌else◌}
use Rattle.tox_script.specs.index.Steps.{rule_at}
use Rattle.tox_script.specs.declared.index.step.Step.{Step}
use Rattle.tox_check.specs.declared.run.Run.{Run}

-- consecutive connections that meet a rule; the next one doesn't meet it
pub record IsMetRun (met : ℕ → Option ℕ) (run : Run) : Type 0 where
  pub some : run.first ≤ run.last
  pub numbered : run.last ≤ 1_000_000
  pub meet : (conn : ℕ) → run.first ≤ conn → conn ≤ run.last → met conn ≡ Some run.rule
  pub ends : run.last < 1_000_000 → met (run.last + 1) ≢ Some run.rule

-- no connection of the half-open range meets a rule
abbrev pub MeetNone : (ℕ → Option ℕ) → ℕ → ℕ → Type 0
MeetNone met at before = (conn : ℕ) → at ≤ conn → conn < before → met conn ≡ None

-- the runs of all connections from one on, up to 1,000,000, that meet a rule
abbrev pub IsRuns : (ℕ → Option ℕ) → ℕ → List Run → Type 0
IsRuns met at [] = MeetNone met at 1_000_001
IsRuns met at (run ∷ runs) =
    (at ≤ run.first) × (MeetNone met at run.first × (IsMetRun met run × IsRuns met (run.last + 1) runs))

-- whether two runs are adjacent and meet the same rule
abbrev pub joins : Run → Run → Bool
joins run next = next.rule == run.rule && (next.first == run.last + 1)

-- prepends a run, joined with the first one if it can be
abbrev pub ahead : Run → List Run → List Run
ahead run [] = run ∷ []
ahead run (next ∷ runs) =
    if joins run next
    then record { first = run.first; last = next.last; rule = run.rule } ∷ runs
    else run ∷ next ∷ runs

-- prepends the connections `max first 1` to `until`, if they have a rule
abbrev pub rule_ahead : Option ℕ → ℕ → ℕ → List Run → List Run
rule_ahead None first until runs = runs
rule_ahead (Some rule) first until runs =
    if nat_le (max first 1) until
    then ahead (record { first = max first 1; last = until; rule = rule + 1 }) runs
    else runs

-- prepends the connections of a step up to `until`
abbrev pub step_ahead : Step → ℕ → List Run → List Run
step_ahead step until runs = rule_ahead step.rule step.first until runs

-- the number, from 1, of the rule that steps have at a connection
abbrev pub number_at : ℕ → List Step → Option ℕ
number_at conn steps = option_map (λ rule. rule + 1) (rule_at conn steps)

-- the rules that connections meet have numbers from 1
abbrev pub AreNumbered : (ℕ → Option ℕ) → Type 0
AreNumbered met = (conn rule : ℕ) → conn ≤ 1_000_000 → met conn ≡ Some rule → rule + 1 < 2 ^ 64
