-- The first toxics are read.
use Rattle.std.proofs.Common.{◌≡◌, drop}
use Rattle.tox_inline.specs.Toxics.{numbered_toxics, typed_toxics}
use Rattle.tox_inline.proofs.toxics.read_toxics.Given as goal

abbrev pub invariant-loop-toxic : goal.invariant-loop-toxic
invariant-loop-toxic l = numbered_toxics l.toxics ≡ typed_toxics l.read.items (drop l.toxic-index l.toxics)
