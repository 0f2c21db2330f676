-- A run ahead of the runs of all connections behind it.
use Rattle.std.proofs.Common.{◌≡◌, ◌≢◌, ℕ, ◌+◌, ◌<◌, ◌≤◌, inl, inr, Bool, true, false, cond, List, [], ◌∷◌, Option, None, Some, arith, refl, sym, ap, ◌∙◌}
use Rattle.std.proofs.lemmas.Bool.Decides.{leb_tells}
use Rattle.tox_check.specs.Runs.{IsMetRun, IsRuns, MeetNone, ahead, joins}
use Rattle.tox_check.specs.declared.run.Run.{Run}

-- connections before the runs that meet no rule
pub IsRuns-earlier : (met : ℕ → Option ℕ) (from at : ℕ) (runs : List Run) → from ≤ at → at ≤ 1_000_001 → MeetNone met from at → IsRuns met at runs
    → IsRuns met from runs
IsRuns-earlier met from at [] by most none runs = λ conn begins ends.
    elim (leb_tells at conn) [
      | inl behind ↦ runs conn (omega arith) ends
      | inr before ↦ none conn begins (let h = before.1 in omega arith)
    ]
IsRuns-earlier met from at (run ∷ rest) by most none runs = (
  omega (arith, runs.0),
  (
    λ conn begins ends. elim (leb_tells at conn) [
      | inl behind ↦ runs.1.0 conn (omega arith) ends
      | inr before ↦ none conn begins (let h = before.1 in omega arith)
    ],
    runs.1.1,
  ),
)

some_none : (n : ℕ) (x : Option ℕ) → x ≡ None → x ≢ Some n
some_none n x none some = absurd (cc)

-- connections of a run that don't meet the next one's rule
ends_before : (met : ℕ → Option ℕ) (run next : Run) (rest : List Run) → joins run next ≡ false → IsRuns met (run.last + 1) (next ∷ rest) → run.last < 1_000_000
    → met (run.last + 1) ≢ Some run.rule
ends_before met run next rest apart runs within same =
    let first = runs.0 in
    let none = runs.1.0 in
    let whole : IsMetRun met next = runs.1.1.0 in
    elim (leb_tells next.first (run.last + 1)) [
      | inl at ↦
          let begins : next.first ≡ run.last + 1 = omega arith in
          let some = whole.some in
          let meets : met (run.last + 1) ≡ Some next.rule = whole.meet (run.last + 1) (omega arith) (omega arith) in
          absurd (grind arith)
      | inr behind ↦
          let h = behind.1 in
          let nothing : met (run.last + 1) ≡ None = none (run.last + 1) (omega arith) (omega arith) in
          some_none run.rule (met (run.last + 1)) nothing same
    ]

pub ahead_runs : (met : ℕ → Option ℕ) (run : Run) (runs : List Run) → run.first ≤ run.last → run.last ≤ 1_000_000
    → ((conn : ℕ) → run.first ≤ conn → conn ≤ run.last → met conn ≡ Some run.rule)
    → IsRuns met (run.last + 1) runs → IsRuns met run.first (ahead run runs)
ahead_runs met run [] some most meet runs = (
  omega arith,
  (
    λ conn begins ends. absurd (omega arith),
    (
      record {
        some = some;
        numbered = most;
        meet = meet;
        ends = λ within. some_none run.rule (met (run.last + 1)) (runs (run.last + 1) (omega arith) (omega arith));
      },
      runs,
    ),
  ),
)
ahead_runs met run (next ∷ rest) some most meet runs = at (joins run next) refl
  where
    whole : IsMetRun met next
    whole = runs.1.1.0

    at : (b : Bool) → joins run next ≡ b → IsRuns met run.first (cond b (record { first = run.first; last = next.last; rule = run.rule } ∷ rest)
        (run ∷ next ∷ rest))
    at true joined =
        let begins : next.first ≡ run.last + 1 = grind arith in
        let rule : next.rule ≡ run.rule = grind arith in
        let wide = whole.some in (
          omega arith,
          (
            λ conn begins ends. absurd (omega arith),
            (
              record {
                some = omega arith;
                numbered = whole.numbered;
                meet = λ conn from to. elim (leb_tells conn run.last) [
                  | inl within ↦ meet conn from within.1
                  | inr behind ↦ let h = behind.1 in whole.meet conn (omega arith) to ∙ ap (λ n. Some n) rule
                ];
                ends = λ within same. whole.ends within (same ∙ ap (λ n. Some n) (sym rule));
              },
              runs.1.1.1,
            ),
          ),
        )
    at false apart = (
      omega arith,
      (
        λ conn begins ends. absurd (omega arith),
        (
          record { some = some; numbered = most; meet = meet; ends = ends_before met run next rest apart runs },
          runs,
        ),
      ),
    )
