-- The runs of a tree, in order.
use Rattle.std.specs.Prelude.{List, [], ◌∷◌, ◌++◌}
use Rattle.tox_check.specs.Summary.{IsSome, Sums}
use Rattle.tox_check.specs.declared.run.Run.{Run}
use Rattle.tox_check.specs.declared.tree.RunTree.{RunTree}
use Rattle.tox_check.specs.declared.tree.RunTree.TheVariants.{Leaf, Fork'}

-- the runs of a tree, in order
abbrev pub runs_in : RunTree → List Run
runs_in (Leaf run) = run ∷ []
runs_in (Fork' summary p left q right) = runs_in left ++ runs_in right

-- each fork has the summary of its runs
abbrev pub IsTree : RunTree → Type 0
IsTree (Leaf run) = IsSome run
IsTree (Fork' summary p left q right) =
    Sums (runs_in left ++ runs_in right) summary × (IsTree left × IsTree right)
