-- What some runs have in common.
use Rattle.std.specs.Prelude.{◌≡◌, ℕ, ◌≤◌, List, fold, length, max, min}
use Rattle.std.specs.List.{All}
use Rattle.tox_check.specs.declared.run.Run.{Run}
use Rattle.tox_check.specs.declared.tree.Summary.{Summary}

-- the least rule number of some runs, starting from `rule`
abbrev pub least : ℕ → List Run → ℕ
least rule runs = fold (λ low run. min low run.rule) rule runs

-- the greatest rule number of some runs, starting from `rule`
abbrev pub greatest : ℕ → List Run → ℕ
greatest rule runs = fold (λ high run. max high run.rule) rule runs

-- a run has a connection
abbrev pub IsSome : Run → Type 0
IsSome run = run.first ≤ run.last

-- each run has a connection
abbrev pub Orders : List Run → Type 0
Orders runs = All IsSome runs

-- a run has a connection and lies within a range
abbrev pub Lies : ℕ → ℕ → Run → Type 0
Lies first last run = (first ≤ run.first) × ((run.first ≤ run.last) × (run.last ≤ last))

-- a summary of some runs
pub record Sums (runs : List Run) (summary : Summary) : Type 0 where
  pub each : All (Lies summary.first summary.last) runs
  pub count : summary.count ≡ length runs
  pub low : (rule : ℕ) → least rule runs ≡ min rule summary.low
  pub high : (rule : ℕ) → greatest rule runs ≡ max rule summary.high
