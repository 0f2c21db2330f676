-- Only the source changes, where it is reported.
use Rattle.std.proofs.Common.{refl}
use Rattle.tox_serve.proofs.workers.DirectionLemmas.{source_after}
use Rattle.tox_serve.proofs.workers.open_direction.OpenDirection.note_source.Goals as goal

pub returns-in-Going-clause-after : goal.returns-in-Going-clause-after
returns-in-Going-clause-after g c =
    let both = source_after c.args.event.now c.in-Going.flow _ _ c.in-Going.is (record {
      flow = _;
      going = refl;
      its = refl;
      link = refl;
      its_source = rw c.if-event.true c.note.ensures;
      its_sink = refl;
      its_notes = refl;
    }) in
    record { state = both.0; armed = refl; turn = refl; drives = rw c.if-event.true at both.1 }

pub returns-in_default-clause-after : goal.returns-in_default-clause-after
returns-in_default-clause-after g c =
    let both = source_after c.args.event.now c.in-Going.flow _ _ c.in-Going.is (record {
      flow = _;
      going = refl;
      its = refl;
      link = refl;
      its_source = rw c.if-event.false refl;
      its_sink = refl;
      its_notes = refl;
    }) in
    record { state = both.0; armed = refl; turn = refl; drives = rw c.if-event.false at both.1 }
