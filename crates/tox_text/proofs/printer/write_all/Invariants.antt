-- The first bytes are written.
use Rattle.std.proofs.Common.{◌≡◌, ◌≤◌, ◌-◌, false, length, take}
use Rattle.std.specs.Io.KnownBytes.{append_known}
use Rattle.tox_text.proofs.printer.write_all.Given as goal

abbrev pub invariant-loop-sent : goal.invariant-loop-sent
invariant-loop-sent g l = record {
  working : g.W.Sink.failed l.writer ≡ false;
  within : l.sent ≤ length l.bytes;
  written : g.W.Sink.written l.writer ≡ append_known (g.W.Sink.written l.fn.writer) (take l.sent l.bytes);
}

abbrev pub decreases-loop-sent : goal.decreases-loop-sent
decreases-loop-sent g l = length l.bytes - l.sent
