use Rattle.std.proofs.Common.{◌≡◌, ◌++◌}
use Rattle.rtrb.specs.Ring.{sent, received, SameProducer, SameConsumer}
use Rattle.tox_stages.specs.Collecting.{Collects}
use Rattle.tox_stages.proofs.source_and_sink.feed_and_drain.Given as goal

-- what was sent and what waits are the arrivals, and what was received is collected
abbrev pub invariant-loop : goal.invariant-loop
invariant-loop g l =
    SameProducer l.initial.first l.first
    × SameConsumer l.initial.consumer l.consumer
    × (sent l.first ++ l.waiting.waiting ≡ l.initial.waiting.waiting)
    × Collects l.collected (received l.consumer)
