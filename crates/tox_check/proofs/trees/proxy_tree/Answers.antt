-- The runs by the steps of the index.
use Rattle.std.proofs.Common.{subst, sym, ◌∙◌}
use Rattle.tox_script.specs.index.Numbered.{IsIndex}
use Rattle.tox_check.specs.Runs.{number_at}
use Rattle.tox_check.specs.Summary.{Orders}
use Rattle.tox_check.proofs.AllRuns.{IsRuns-orders}
use Rattle.tox_check.proofs.ProxyRuns.{AreNumbered-index, HoldsRuns-some, IsRuns-index}
use Rattle.tox_check.proofs.trees.proxy_tree.Goals as goal

pub runs_of-requires : goal.runs_of-requires
runs_of-requires c =
    let is = subst (IsIndex c.args.name.now c.args.script.now) (sym c.steps.ensures.found) c.in_ok-index.ensures in
    AreNumbered-index c.args.name.now c.args.script.now c.steps.result.now is c.requires

pub tree_of-requires-clause-ordered : goal.tree_of-requires-clause-ordered
tree_of-requires-clause-ordered c =
    subst Orders (sym c.deref.ensures.value) (IsRuns-orders (λ conn. number_at conn c.steps.result.now) 1 c.in_ok-runs.runs.items c.in_ok-runs.ensures)

pub returns : goal.returns
returns c =
    let is = subst (IsIndex c.args.name.now c.args.script.now) (sym c.steps.ensures.found) c.in_ok-index.ensures in
    let are = IsRuns-index c.args.name.now c.args.script.now c.steps.result.now is c.in_ok-runs.runs.items c.in_ok-runs.ensures in
    HoldsRuns-some c.args.script.now c.args.name.now c.in_ok-tree.tree c.in_ok-runs.runs.items c.in_ok-tree.ensures.sums
    (c.in_ok-tree.ensures.whole ∙ c.deref.ensures.value) are
