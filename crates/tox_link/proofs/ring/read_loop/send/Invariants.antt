-- Nothing is sent yet.
use Rattle.std.proofs.Common.{◌≡◌}
use Rattle.rtrb.specs.Ring.{sent, SameProducer}
use Rattle.tox_link.proofs.ring.read_loop.send.Given as goal

abbrev pub invariant-loop : goal.invariant-loop
invariant-loop g l = record {
  ring : SameProducer l.initial.sender l.sender;
  sent : sent l.sender ≡ sent l.initial.sender;
  message : l.message ≡ l.initial.message;
}
