-- Only the target changes, where it is reported.
use Rattle.std.proofs.Common.{arith, refl}
use Rattle.tox_serve.proofs.workers.DirectionLemmas.{target_after}
use Rattle.tox_serve.proofs.workers.open_direction.OpenDirection.note_target.Goals as goal

pub returns-then-note-clause-after : goal.returns-then-note-clause-after
returns-then-note-clause-after g c =
    let both = target_after c.args.event.now c.in-Going.flow _ _ _ c.in-Going.is (record {
      flow = _;
      going = refl;
      its = refl;
      link = refl;
      its_source = refl;
      its_sink = rw c.if-event.true c.note.ensures.noted;
      its_notes = refl;
    }) (grind (arith, c.if-event.true, c.if-note.true, c.note.ensures.news)) in
    record { state = both.0; armed = refl; turn = refl; drives = both.1 }

pub returns-else-note-clause-after : goal.returns-else-note-clause-after
returns-else-note-clause-after g c =
    let both = target_after c.args.event.now c.in-Going.flow _ _ _ c.in-Going.is (record {
      flow = _;
      going = refl;
      its = refl;
      link = refl;
      its_source = refl;
      its_sink = rw c.if-event.true c.note.ensures.noted;
      its_notes = refl;
    }) (grind (arith, c.if-event.true, c.if-note.false, c.note.ensures.news)) in
    record { state = both.0; armed = refl; turn = refl; drives = both.1 }

pub returns-in_default-clause-after : goal.returns-in_default-clause-after
returns-in_default-clause-after g c =
    let both = target_after c.args.event.now c.in-Going.flow _ _ _ c.in-Going.is (record {
      flow = _;
      going = refl;
      its = refl;
      link = refl;
      its_source = refl;
      its_sink = rw c.if-event.false refl;
      its_notes = refl;
    }) (rw c.if-event.false refl) in
    record { state = both.0; armed = refl; turn = refl; drives = both.1 }
