-- Only the notes change.
use Rattle.std.proofs.Common.{refl}
use Rattle.tox_serve.proofs.workers.DirectionLemmas.{noted_so}
use Rattle.tox_serve.proofs.workers.open_direction.OpenDirection.log.Goals as goal

pub returns-in-Going-clause-state : goal.returns-in-Going-clause-state
returns-in-Going-clause-state g c = noted_so _ c.in-Going.flow _ _ c.in-Going.is (record {
  flow = _;
  going = refl;
  its = refl;
  link = refl;
  its_source = refl;
  its_sink = refl;
  its_notes = c.change.ensures;
})
