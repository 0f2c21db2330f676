-- A bandwidth finds the first piece of the chunk that it cuts.
use Rattle.std.proofs.Common.{refl}
use Rattle.tox_defs.proofs.ToxicProofs.Bandwidth.{pace_found}
use Rattle.tox_defs.proofs.toxics.bandwidth.look.Goals as goal

pub returns-clause-finds : goal.returns-clause-finds
returns-clause-finds c =
    λ items. pace_found c.args.rate c.args.state.now c.args.rest.now _ items c.requires.rate c.requires.running c.requires.some
    (rw (c.after.ensures.value, c.later.ensures.value, c.div_ceil-wait.ensures, c.from-2.ensures, c.front-span.ensures, c.from.ensures) refl)
