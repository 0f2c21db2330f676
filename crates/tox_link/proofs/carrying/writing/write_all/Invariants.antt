-- The first bytes are written.
use Rattle.std.proofs.Common.{length, ◌-◌, ◌≡◌, ◌≤◌, take, false}
use Rattle.std.specs.Io.KnownBytes.{append_known}
use Rattle.tox_link.proofs.carrying.writing.write_all.Given as goal

abbrev pub invariant-loop-done : goal.invariant-loop-done
invariant-loop-done g l = record {
  within : l.done ≤ length l.bytes;
  written : g.W.Sink.written l.writer ≡ append_known (g.W.Sink.written l.initial.writer) (take l.done l.bytes);
  working : g.W.Sink.failed l.writer ≡ false;
}

abbrev pub decreases-loop-done : goal.decreases-loop-done
decreases-loop-done g l = length l.bytes - l.done
