-- What was sent so far, and what is left.
use Rattle.std.proofs.Common.{◌≡◌, ◌≤◌, length, false}
use Rattle.std.specs.Io.KnownBytes.{prepend_known}
use Rattle.rtrb.specs.Ring.{sent, SameProducer}
use Rattle.tox_link.specs.ring.Messages.{bytes_of, ArePieces}
use Rattle.tox_link.proofs.ring.read_loop.read_pieces.Given as goal

abbrev pub invariant-loop-nth : goal.invariant-loop-nth
invariant-loop-nth g l = record {
  ring : SameProducer l.initial.sender l.sender;
  pieces : ArePieces (sent l.sender);
  bytes : g.S.Source.remaining l.initial.reader ≡ prepend_known (bytes_of (sent l.sender)) (g.S.Source.remaining l.reader);
  working : g.S.Source.failed l.reader ≡ false;
  total : l.total ≡ length (bytes_of (sent l.sender));
  most : l.total ≤ 1099511627776;
  each : l.nth ≤ l.total;
  count : length (sent l.sender) ≡ l.nth;
}
