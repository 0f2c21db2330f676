-- The slices so far join to one, and the others are left.
use Rattle.std.proofs.Common.{◌≡◌, ◌<◌, ℕ, List, length}
use Rattle.tox_time.specs.declared.streams.item.Item.{Item}
use Rattle.tox_time.specs.streams.Neighbours.{AreNeighbours}
use Rattle.tox_runs.specs.runs.OutcomeSlices.{JoinsTo}
use Rattle.tox_runs.specs.runs.SecondPass.{IsEdge}
use Rattle.tox_runs.proofs.runs.outcome_slices.OutcomeSlices.next_before.Given as goal

abbrev pub invariant-loop-self : goal.invariant-loop-self
invariant-loop-self l = record {
  ending : l.self.ending.now ≡ l.fn.self.ending.now;
  shorter : length l.self.left.now < length l.fn.self.left.now;
  joins : (items : List Item) (position : ℕ) → AreNeighbours items position l.fn.self.left.now → IsEdge items l.stop
      → JoinsTo l.stop items position l.fn.self.left.now l.joined l.self.left.now;
}

abbrev pub decreases-loop-self : goal.decreases-loop-self
decreases-loop-self l = length l.self.left.now
