-- The link is carried so far.
use Rattle.std.proofs.Common.{◌≡◌, take, false}
use Rattle.std.specs.Io.KnownBytes.{append_known}
use Rattle.rtrb.specs.Ring.{received, SameConsumer}
use Rattle.tox_link.specs.carrying.Steps.{NotesAll}
use Rattle.tox_link.specs.carrying.Side.{IsSound, came}
use Rattle.tox_link.proofs.carrying.driving.drive.Given as goal

abbrev pub invariant-loop : goal.invariant-loop
invariant-loop g l = record {
  ring : SameConsumer l.initial.side.inbox.receiver l.side.inbox.receiver;
  sound : IsSound l.side (received l.side.inbox.receiver);
  written : g.W.Sink.written l.writer ≡ append_known (g.W.Sink.written l.initial.writer) (take l.side.written (came l.side));
  working : g.W.Sink.failed l.writer ≡ false;
  log : NotesAll (g.C.Clock.reported l.clock) (g.N.Notes.events l.initial.notes) (g.N.Notes.events l.notes) l.initial.side l.side;
}
