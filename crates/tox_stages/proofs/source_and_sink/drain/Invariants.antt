use Rattle.std.proofs.Common.{◌≡◌, ◌<◌, length, false, true}
use Rattle.rtrb.specs.Ring.{received, SameConsumer}
use Rattle.tox_stages.specs.Collecting.{Collects}
use Rattle.tox_stages.proofs.source_and_sink.drain.Given as goal

-- what was received is collected; nothing was received where it says so
abbrev pub invariant-loop : goal.invariant-loop
invariant-loop l =
    SameConsumer l.initial.consumer l.consumer
    × Collects l.collected (received l.consumer)
    × (l.has_come ≡ true → length (received l.initial.consumer) < length (received l.consumer))
    × (l.has_come ≡ false → received l.consumer ≡ received l.initial.consumer)
