-- What was given, and what is still to come for the other arrivals, is what the plan means for all of them.
use Rattle.std.proofs.Common.{◌≡◌, true, [], drop}
use Rattle.tox_time.specs.streams.Arrivals.{arrival_list}
use Rattle.tox_plan.specs.Delivering.{LeadTo, PreservesOutput}
use Rattle.tox_plan.proofs.Deliveries.{IsAhead}
use Rattle.tox_plan.proofs.delivery.deliver_plan.Given as goal

abbrev pub invariant-loop-item : goal.invariant-loop-item
invariant-loop-item l = record {
  idle : l.runner.idle ≡ true;
  ahead : IsAhead l.runner (drop l.item-index l.item-items);
  goes : PreservesOutput l.initial.runner [] (arrival_list l.item-items) l.runner l.slices (arrival_list (drop l.item-index l.item-items));
  neighbours : LeadTo l.item-items l.slices l.runner.position;
}
