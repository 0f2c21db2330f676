-- Steps of connections, the latest first, each with the rule that is met from it on.
use Rattle.std.specs.Prelude.{◌≡◌, ℕ, ◌<◌, ◌≤◌, ◌^◌, List, [], ◌∷◌, nat_le, Option, None, if◌then◌else◌}
use Rattle.tox_script.specs.declared.index.step.Step.{Step}

-- the rule of a connection: that of the latest step that doesn't begin behind it
abbrev pub rule_at : ℕ → List Step → Option ℕ
rule_at conn [] = None
rule_at conn (step ∷ steps) = if nat_le step.first conn then step.rule else rule_at conn steps

-- in the steps each connection has the rule that it is given
abbrev pub HaveRules : List Step → (ℕ → Option ℕ) → Type 0
HaveRules steps rule_of = (conn : ℕ) → conn < 2 ^ 64 → rule_at conn steps ≡ rule_of conn

-- no step begins behind this connection, or behind an earlier step of the list
abbrev pub Descends : ℕ → List Step → Type 0
Descends most [] = Unit {0}
Descends most (step ∷ steps) = (step.first ≤ most) × Descends step.first steps
