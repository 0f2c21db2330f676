-- What a warning tells, if there is one, and the runs of a proxy.
use Rattle.std.specs.Prelude.{◌≡◌, List, [], ◌∷◌, ◌++◌, map, ℕ, Option, None, Some}
use Rattle.tox_check.specs.Sentences.{warning_text}
use Rattle.tox_check.specs.Tree.{IsTree, runs_in}
use Rattle.tox_check.specs.declared.run.Run.{Run}
use Rattle.tox_check.specs.declared.tree.RunTree.{RunTree}
use Rattle.tox_check.specs.declared.warning.Warning.{Warning}

-- what a warning tells, if there is one
abbrev pub warnings_by : Option Warning → List (List ℕ)
warnings_by None = []
warnings_by (Some warning) = warning_text warning ∷ []

-- warnings that tell these texts stand behind those that were
abbrev pub TellMore : List Warning → List Warning → List (List ℕ) → Type 0
TellMore old new texts = map warning_text new ≡ map warning_text old ++ texts

-- the runs of a proxy, if it has any
abbrev pub runs_by : Option RunTree → List Run
runs_by None = []
runs_by (Some tree) = runs_in tree

-- the tree of a proxy, if it has runs, has the summaries of its runs
abbrev pub IsTreeOf : Option RunTree → Type 0
IsTreeOf None = Unit {0}
IsTreeOf (Some tree) = IsTree tree
