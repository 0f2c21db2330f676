use Rattle.std.proofs.Common.{◌≡◌, ◌<◌, ◌++◌, length, false, true}
use Rattle.rtrb.specs.Ring.{sent, SameProducer}
use Rattle.tox_stages.proofs.source_and_sink.fill.Given as goal

-- what was sent, and what waits; nothing was sent where it says so
abbrev pub invariant-loop-first : goal.invariant-loop-first
invariant-loop-first l =
    SameProducer l.initial.first l.first
    × (sent l.first ++ l.waiting.waiting ≡ sent l.initial.first ++ l.initial.waiting.waiting)
    × (l.has_sent ≡ true → length (sent l.initial.first) < length (sent l.first))
    × (l.has_sent ≡ false → sent l.first ≡ sent l.initial.first)

abbrev pub decreases-loop-first : goal.decreases-loop-first
decreases-loop-first l = length l.waiting.waiting
