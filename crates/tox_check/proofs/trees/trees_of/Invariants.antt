-- The first proxies have their trees.
use Rattle.std.proofs.Common.{take}
use Rattle.tox_check.specs.Trees.{AreTrees}
use Rattle.tox_check.proofs.trees.trees_of.Given as goal

abbrev pub invariant-loop-proxy : goal.invariant-loop-proxy
invariant-loop-proxy l = AreTrees l.setup.script (take l.proxy-index l.setup.proxies.items) l.trees.items
