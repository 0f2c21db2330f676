-- The trees of the proxies of a file.
use Rattle.std.specs.Prelude.{◌≡◌, ℕ, List, [], ◌∷◌, Option, if◌then◌else◌}
use Rattle.tox_config.specs.Populate.{is_named}
use Rattle.tox_config.specs.Proxy.{Proxy}
use Rattle.tox_script.specs.Rule.{Rules}
use Rattle.tox_check.specs.Checking.{met}
use Rattle.tox_check.specs.Runs.{IsRuns}
use Rattle.tox_check.specs.RuleWarnings.{IsTreeOf, runs_by}
use Rattle.tox_check.specs.declared.run.Run.{Run}
use Rattle.tox_check.specs.declared.tree.RunTree.{RunTree}

-- a tree, if there is one, holds the runs of the proxy of a name
pub record HoldsRuns (script : Rules) (name : List ℕ) (tree : Option RunTree) : Type 0 where
  pub whole : IsTreeOf tree
  pub runs : IsRuns (met name script) 1 (runs_by tree)

-- each proxy has its tree
abbrev pub AreTrees : Rules → List Proxy → List (Option RunTree) → Type 0
AreTrees script [] trees = trees ≡ []
AreTrees script (proxy ∷ proxies) [] = ⊥
AreTrees script (proxy ∷ proxies) (tree ∷ trees) =
    HoldsRuns script proxy.name tree × AreTrees script proxies trees

-- the runs of the first proxy of a name, where each proxy has its tree
abbrev pub runs_named : List Proxy → List (Option RunTree) → List ℕ → List Run
runs_named [] trees name = []
runs_named (proxy ∷ proxies) [] name = []
runs_named (proxy ∷ proxies) (tree ∷ trees) name =
    if is_named name proxy then runs_by tree else runs_named proxies trees name
