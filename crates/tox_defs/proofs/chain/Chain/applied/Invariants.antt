-- The toxics met so far, with those of the entries that are left, are those of the chain.
use Rattle.tox_defs.proofs.Gathered.{Gathers}
use Rattle.tox_defs.proofs.chain.Chain.applied.Given as goal

abbrev pub invariant-loop-place : goal.invariant-loop-place
invariant-loop-place l = Gathers l.self l.words l.place l.met.items
