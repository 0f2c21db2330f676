use Rattle.std.proofs.Common.{◌≡◌}
use Rattle.rtrb.specs.Ring.{sent, SameProducer}
use Rattle.tox_stages.proofs.waiting.push_waiting.Given as goal

-- a full ring leaves what was sent
abbrev pub invariant-loop : goal.invariant-loop
invariant-loop g l = SameProducer l.initial.producer l.producer × (sent l.producer ≡ sent l.initial.producer) × (l.item ≡ l.initial.item)
