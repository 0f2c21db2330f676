-- The operations of a chain's applied toxics.
use Rattle.std.specs.Prelude.{ℕ, List, map}
use Rattle.tox_defs.specs.declared.operations.op.Op.{Op}
use Rattle.tox_defs.specs.chain.Chain.{Toxics}
use Rattle.tox_defs.specs.declared.chain.applied.Placed.{Placed}
use Rattle.tox_defs.specs.Flow.{applied}
use Rattle.tox_defs.specs.operations.Op.{op_of}

-- the operation of an applied toxic, at its place in the chain as written
abbrev pub op_of_placed : Placed → Op
op_of_placed placed = op_of placed.place placed.toxic

-- one operation for each applied toxic, in order
abbrev pub applied_ops : Toxics → List ℕ → List Op
applied_ops chain words = map op_of_placed (applied chain words)
