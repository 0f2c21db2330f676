use Rattle.std.proofs.Common.{◌≡◌, ◌++◌, length}
use Rattle.rtrb.specs.Ring.{sent, SameProducer}
use Rattle.tox_stages.proofs.worker.emit_all.Given as goal

-- what was sent, and what is left to emit
abbrev pub invariant-loop-item : goal.invariant-loop-item
invariant-loop-item g l =
    SameProducer l.initial.producer l.producer
    × (l.stage ≡ record l.initial.stage { pending = l.stage.pending })
    × (sent l.producer ++ l.stage.pending ≡ sent l.initial.producer ++ l.initial.stage.pending)

abbrev pub decreases-loop-item : goal.decreases-loop-item
decreases-loop-item g l = length l.stage.pending
