-- What was found out of the connections of a rule.
use Rattle.std.specs.Prelude.{◌≡◌, ℕ, ◌+◌, List, ◌++◌}
use Rattle.tox_check.specs.Coverage.{own_of, taken_of}
use Rattle.tox_check.specs.Listed.{IsListed}
use Rattle.tox_check.specs.Summary.{greatest, least}
use Rattle.tox_check.specs.declared.run.Run.{Run}
use Rattle.tox_check.specs.declared.rule_runs.RuleRuns.{RuleRuns}

-- what was found of a rule over some runs
pub record HasRuns (rule : ℕ) (runs : List Run) (found : RuleRuns) : Type 0 where
  pub own : IsListed (own_of rule runs) found.own
  pub taken : IsListed (taken_of rule runs) found.taken
  pub low : found.low ≡ least rule (taken_of rule runs)
  pub high : found.high ≡ greatest 0 (taken_of rule runs)

-- these runs were appended to those before
abbrev pub HasMoreRuns : ℕ → List Run → RuleRuns → RuleRuns → Type 0
HasMoreRuns rule more old new =
    (runs : List Run) → HasRuns rule runs old → HasRuns rule (runs ++ more) new

-- how many runs are only counted, and not shown
abbrev pub unshown_count : RuleRuns → ℕ
unshown_count found = found.own.more + found.taken.more
