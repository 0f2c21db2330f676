-- Steps laid over others, one step at a time.
use Rattle.std.specs.Prelude.{ℕ, ◌==◌, List, [], ◌∷◌, max, Option, None, Some, if◌then◌else◌}
use Rattle.std.specs.Option.{option_or}
use Rattle.tox_script.specs.declared.index.step.Step.{Step}

-- the rule of the latest of some steps
abbrev pub rule_in : List Step → Option ℕ
rule_in [] = None
rule_in (step ∷ steps) = step.rule

-- the latest step of steps laid over others
abbrev pub latest_step : List Step → List Step → Option Step
latest_step [] [] = None
latest_step [] (lower ∷ below) = Some lower
latest_step (upper ∷ above) [] = Some (record { first = upper.first; rule = option_or upper.rule None })
latest_step (upper ∷ above) (lower ∷ below) =
    Some (record { first = max upper.first lower.first; rule = option_or upper.rule lower.rule })

-- the steps without a latest one that begins at this connection
abbrev pub without_latest : ℕ → List Step → List Step
without_latest first [] = []
without_latest first (step ∷ steps) = if step.first == first then steps else step ∷ steps
