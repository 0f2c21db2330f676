use Rattle.std.proofs.Common.{◌≡◌}
use Rattle.rtrb.specs.Ring.{received, SameConsumer}
use Rattle.tox_stages.proofs.waiting.pop_waiting.Given as goal

-- an empty ring leaves what was received
abbrev pub invariant-loop : goal.invariant-loop
invariant-loop g l = SameConsumer l.initial.consumer l.consumer × (received l.consumer ≡ received l.initial.consumer)
