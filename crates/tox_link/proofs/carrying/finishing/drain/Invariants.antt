-- What was dropped so far.
use Rattle.std.proofs.Common.{◌≡◌, List, ◌++◌}
use Rattle.rtrb.specs.Ring.{received, SameConsumer}
use Rattle.tox_link.specs.declared.ring.message.Message.{Message}
use Rattle.tox_link.proofs.carrying.finishing.drain.Given as goal

abbrev pub invariant-loop : goal.invariant-loop
invariant-loop g l = record {
  ring : SameConsumer l.initial.inbox.receiver l.inbox.receiver;
  received : (more : List Message) × (received l.inbox.receiver ≡ received l.initial.inbox.receiver ++ more);
}
