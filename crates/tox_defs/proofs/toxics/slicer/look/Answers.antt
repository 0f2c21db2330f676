-- A slicer finds the first piece of the chunk that it cuts.
use Rattle.std.proofs.Common.{refl}
use Rattle.tox_words.specs.Draw.{draws_of}
use Rattle.tox_defs.proofs.ToxicProofs.Slicer.{slicing_found}
use Rattle.tox_defs.proofs.toxics.slicer.look.Goals as goal

pub returns-clause-finds : goal.returns-clause-finds
returns-clause-finds c =
    λ items. slicing_found c.args.average c.args.variation c.args.micros (draws_of c.args.drawing.now c.args.lane) c.args.state.now c.args.rest.now _ items
    c.requires.sizes c.requires.running c.requires.some
    (rw (c.after.ensures.value, c.later.ensures.value, c.front.ensures, c.varied.ensures.value) refl)
