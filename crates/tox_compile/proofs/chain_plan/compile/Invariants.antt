-- The operations so far are those of the toxics so far.
use Rattle.tox_compile.proofs.CompileTurns.{Compiles}
use Rattle.tox_compile.proofs.chain_plan.compile.Given as goal

abbrev pub invariant-loop-placed : goal.invariant-loop-placed
invariant-loop-placed l = Compiles l.placed-items l.placed-index l.ops.items
