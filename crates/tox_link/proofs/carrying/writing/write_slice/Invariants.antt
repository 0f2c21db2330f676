-- The slice is written up to a position.
use Rattle.std.proofs.Common.{◌-◌, ◌≡◌, ◌≤◌, false}
use Rattle.tox_link.specs.steps.Held.{WritesFromTo}
use Rattle.tox_link.proofs.carrying.writing.write_slice.Given as goal

abbrev pub invariant-loop-start : goal.invariant-loop-start
invariant-loop-start g l = record {
  from_start : l.slice.span.start ≤ l.start;
  to_stop : l.start ≤ l.slice.span.stop;
  working : g.W.Sink.failed l.writer ≡ false;
  written : WritesFromTo l.window.held l.slice.span.start l.start (g.W.Sink.written l.initial.writer) (g.W.Sink.written l.writer);
}

abbrev pub decreases-loop-start : goal.decreases-loop-start
decreases-loop-start g l = l.slice.span.stop - l.start
