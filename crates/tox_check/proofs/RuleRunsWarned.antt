-- What is reported of the runs of a rule.
use Rattle.std.proofs.Common.{◌≡◌, ◌≢◌, ℕ, ◌-◌, List, [], ◌∷◌, length, take, refl, ap, ◌∙◌}
use Rattle.tox_check.specs.Coverage.{own_of, taken_of}
use Rattle.tox_check.specs.Lines.{coverage_warnings, met_warnings}
use Rattle.tox_check.specs.Listed.{IsListed}
use Rattle.tox_check.specs.Sentences.{partly_text}
use Rattle.tox_check.specs.RuleRuns.{HasRuns}
use Rattle.tox_check.specs.declared.listed.Listed.{Listed}
use Rattle.tox_check.specs.declared.run.Run.{Run}
use Rattle.tox_check.specs.declared.rule_runs.RuleRuns.{RuleRuns}

some_shown : (runs : List Run) (listed : Listed) → IsListed runs listed → listed.shown.items ≢ [] → runs ≢ []
some_shown runs listed is some none = some (is.shown ∙ ap (take 8) none)

warned_partly : (rule : ℕ) (own taken : List Run) → own ≢ [] → taken ≢ []
    → partly_text (take 8 own) (length own - 8) (take 8 taken) (length taken - 8) ∷ [] ≡ coverage_warnings rule own taken
warned_partly rule [] taken some others = absurd (some refl)
warned_partly rule (run ∷ own) [] some others = absurd (others refl)
warned_partly rule (run ∷ own) (other ∷ taken) some others = refl

-- the rule gets some of the runs, and others get the rest
pub HasRuns-partly : (rule : ℕ) (runs : List Run) (found : RuleRuns) → HasRuns rule runs found → found.own.shown.items ≢ [] → found.taken.shown.items ≢ []
    → partly_text found.own.shown.items found.own.more found.taken.shown.items found.taken.more ∷ [] ≡ met_warnings rule runs
HasRuns-partly rule runs found is some others =
    let own = own_of rule runs in
    let taken = taken_of rule runs in
    ap (λ shown. partly_text shown found.own.more found.taken.shown.items found.taken.more ∷ []) is.own.shown
    ∙ ap (λ more. partly_text (take 8 own) more found.taken.shown.items found.taken.more ∷ []) is.own.more
    ∙ ap (λ shown. partly_text (take 8 own) (length own - 8) shown found.taken.more ∷ []) is.taken.shown
    ∙ ap (λ more. partly_text (take 8 own) (length own - 8) (take 8 taken) more ∷ []) is.taken.more
    ∙ warned_partly rule own taken (some_shown own found.own is.own some) (some_shown taken found.taken is.taken others)
