-- What was given and what is to come stay the same together; the slices go on; and each cut shortens the rest of the piece.
use Rattle.std.proofs.Common.{◌≡◌, ◌-◌, List}
use Rattle.std.specs.Prelude.{Any}
use Rattle.tox_time.specs.declared.streams.item.Item.{Item}
use Rattle.tox_time.specs.streams.Neighbours.{LiesInChunk}
use Rattle.tox_plan.specs.Delivering.{LeadTo, PreservesOutput}
use Rattle.tox_plan.proofs.delivery.take_cuts.Given as goal

abbrev pub invariant-loop-slice : goal.invariant-loop-slice
invariant-loop-slice l = record {
  goes : (items : List Item) → PreservesOutput l.initial.runner l.initial.slices items l.runner l.slices items;
  piece : (l.runner.piece ≡ l.initial.runner.piece) × (l.runner.latest ≡ l.initial.runner.latest);
  neighbours : (items : List Item) → Any (LiesInChunk l.initial.runner.piece.span) items → LeadTo items l.initial.slices l.initial.runner.position
      → LeadTo items l.slices l.runner.position;
}

abbrev pub decreases-loop-slice : goal.decreases-loop-slice
decreases-loop-slice l = l.runner.piece.span.stop - l.runner.position
