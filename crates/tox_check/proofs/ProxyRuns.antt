-- The runs of a proxy, by the steps of its index.
use Rattle.std.proofs.Common.{◌≡◌, ℕ, ◌+◌, ◌<◌, ◌^◌, List, length, Option, Some, arith, sym, ap, subst}
use Rattle.std.specs.Prelude.{option_map}
use Rattle.tox_script.specs.Rule.{Rules}
use Rattle.tox_script.specs.declared.index.step.Step.{Step}
use Rattle.tox_script.specs.index.Numbered.{IsIndex}
use Rattle.tox_script.specs.index.Steps.{rule_at}
use Rattle.tox_check.proofs.forecast.LinkTexts.{met_fits}
use Rattle.tox_check.specs.Checking.{met}
use Rattle.tox_check.specs.Runs.{AreNumbered, IsRuns, number_at}
use Rattle.tox_check.specs.RuleWarnings.{runs_by}
use Rattle.tox_check.specs.Tree.{IsTree, runs_in}
use Rattle.tox_check.specs.Trees.{HoldsRuns}
use Rattle.tox_check.specs.declared.run.Run.{Run}
use Rattle.tox_check.specs.declared.tree.RunTree.{RunTree}
use Rattle.tox_check.proofs.AllRuns.{IsRuns-few, IsRuns-same}

module _ (name : List ℕ) (script : Rules) (steps : List Step) (is : IsIndex name script steps) where
  pub AreNumbered-index : length script.rules < 2 ^ 64 → AreNumbered (λ conn. rule_at conn steps)
  AreNumbered-index few = λ conn rule most found. met_fits name script conn (rule_at conn steps) (is conn (omega arith)) few rule found

  pub IsRuns-index : (runs : List Run) → IsRuns (λ conn. number_at conn steps) 1 runs → IsRuns (met name script) 1 runs
  IsRuns-index runs are = IsRuns-same (λ conn. number_at conn steps) (met name script) 1 runs
      (λ conn most. ap (option_map (λ rule. rule + 1)) (is conn (omega arith))) are

-- runs are in their tree
pub HoldsRuns-some : (script : Rules) (name : List ℕ) (tree : RunTree) (runs : List Run) → IsTree tree → runs_in tree ≡ runs → IsRuns (met name script) 1 runs
    → HoldsRuns script name (Some tree)
HoldsRuns-some script name tree runs whole same are = record { whole = whole; runs = subst (IsRuns (met name script) 1) (sym same) are }

-- and not many
pub HoldsRuns-few : (script : Rules) (name : List ℕ) (tree : Option RunTree) → HoldsRuns script name tree → length (runs_by tree) < 2 ^ 64
HoldsRuns-few script name tree holds = let few = IsRuns-few (met name script) 1 (runs_by tree) (omega arith) holds.runs in omega arith
