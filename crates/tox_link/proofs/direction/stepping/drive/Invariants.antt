-- What was driven so far.
use Rattle.std.proofs.Common.{◌≡◌, ◌+◌, ◌<◌, false}
use Rattle.tox_link.specs.direction.Driven.{Drove, EndsWithCore, IsReady, moved_of}
use Rattle.tox_link.proofs.direction.stepping.drive.Given as goal

abbrev pub invariant-loop-nth : goal.invariant-loop-nth
invariant-loop-nth g l = record {
  ready : IsReady (g.C.Clock.reported l.clock) l.link (g.S.PollSource.remaining l.source) (g.S.PollSource.failed l.source);
  ends : EndsWithCore l.initial.link → EndsWithCore l.link;
  working : g.W.PollSink.failed l.sink ≡ false;
  few : moved_of l.link < moved_of l.initial.link + 81_920;
  drove : Drove l._nth (g.C.Clock.reported l.clock) l.initial.link (record
      { remaining = g.S.PollSource.remaining l.initial.source; written = g.W.PollSink.written l.initial.sink; events = g.N.Notes.events l.initial.notes })
      l.link (record { remaining = g.S.PollSource.remaining l.source; written = g.W.PollSink.written l.sink; events = g.N.Notes.events l.notes });
}
