-- With bytes it finds the first of them.
use Rattle.tox_defs.specs.operations.Look.{as_chunk}
use Rattle.tox_defs.specs.toxics.Halt.{raised}
use Rattle.tox_defs.proofs.ToxicProofs.Halting.{halt_after-some}
use Rattle.tox_defs.proofs.toxics.halt.look_after.Goals as goal

pub returns-clause-finds : goal.returns-clause-finds
returns-clause-finds c =
    rw (halt_after-some c.args.after c.args.ending.now c.args.state.now (as_chunk c.args.rest.now) c.if-after-eq0.false)
    (c.look.ensures.finds (raised c.args.ending.now) c.raised.ensures)
