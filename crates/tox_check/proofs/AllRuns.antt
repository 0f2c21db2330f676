-- The runs of all connections: there are some, they are in order, and not many.
use Rattle.std.proofs.Common.{◌≡◌, ℕ, zero, suc, ◌+◌, ◌≤◌, List, [], ◌∷◌, length, Option, None, Some, arith, refl, sym, ap, ◌∙◌}
use Rattle.std.proofs.lemmas.List.Elements.{All-cons, All-nil}
use Rattle.tox_check.specs.Runs.{IsMetRun, IsRuns, ahead}
use Rattle.tox_check.specs.Summary.{IsSome, Orders}
use Rattle.tox_check.specs.declared.run.Run.{Run}
use Rattle.tox_check.proofs.Joined.{IsRuns-earlier, ahead_runs}

-- connections that meet the same rules have the same runs
pub IsRuns-same : (f g : ℕ → Option ℕ) (at : ℕ) (runs : List Run) → ((conn : ℕ) → conn ≤ 1_000_000 → f conn ≡ g conn) → IsRuns f at runs → IsRuns g at runs
IsRuns-same f g at [] same are = λ conn from to. sym (same conn (omega arith)) ∙ are conn from to
IsRuns-same f g at (run ∷ rest) same are =
    let whole : IsMetRun f run = are.1.1.0 in
    let some = whole.some in
    let most = whole.numbered in (
      are.0,
      (
        λ conn from to. sym (same conn (omega arith)) ∙ are.1.0 conn from to,
        (
          record {
            some = some;
            numbered = most;
            meet = λ conn from to. sym (same conn (omega arith)) ∙ whole.meet conn from to;
            ends = λ inner meets. whole.ends inner (same (run.last + 1) (omega arith) ∙ meets);
          },
          IsRuns-same f g (run.last + 1) rest same are.1.1.1,
        ),
      ),
    )

-- each run has a connection
pub IsRuns-orders : (met : ℕ → Option ℕ) (at : ℕ) (runs : List Run) → IsRuns met at runs → Orders runs
IsRuns-orders met at [] are = All-nil IsSome
IsRuns-orders met at (run ∷ rest) are = All-cons IsSome run rest are.1.1.0.some (IsRuns-orders met (run.last + 1) rest are.1.1.1)

-- there are no more runs than connections
pub IsRuns-few : (met : ℕ → Option ℕ) (at : ℕ) (runs : List Run) → at ≤ 1_000_001 → IsRuns met at runs → at + length runs ≤ 1_000_001
IsRuns-few met at [] most are = omega arith
IsRuns-few met at (run ∷ rest) most are =
    let begins = are.0 in
    let some = are.1.1.0.some in
    let last = are.1.1.0.numbered in
    let later = IsRuns-few met (run.last + 1) rest (omega arith) are.1.1.1 in
    omega arith

-- some runs of the connections from one on
pub record Found (met : ℕ → Option ℕ) (at : ℕ) : Type 0 where
  pub runs : List Run
  pub are : IsRuns met at runs

-- one connection before others
earlier : (met : ℕ → Option ℕ) (at : ℕ) → at ≤ 1_000_000 → (rule : Option ℕ) → met at ≡ rule → Found met (at + 1) → Found met at
earlier met at most None none later = record {
  runs = later.runs;
  are = IsRuns-earlier met at (at + 1) later.runs (omega arith) (omega arith) (λ conn from to. let same : conn ≡ at = omega arith in ap met same ∙ none)
      later.are;
}
earlier met at most (Some rule) some later =
    let run : Run = record { first = at; last = at; rule = rule } in record {
      runs = ahead run later.runs;
      are = ahead_runs met run later.runs (omega arith) most (λ conn from to. let same : conn ≡ at = omega arith in ap met same ∙ some) later.are;
    }

found_from : (met : ℕ → Option ℕ) (n at : ℕ) → at + n ≡ 1_000_001 → Found met at
found_from met zero at whole = record { runs = []; are = λ conn from to. absurd (omega arith) }
found_from met (suc n) at whole = earlier met at (omega arith) (met at) refl (found_from met n (at + 1) (omega arith))

-- runs of all connections
pub all_runs : (met : ℕ → Option ℕ) → Found met 1
all_runs met = found_from met 1_000_000 1 (omega arith)
