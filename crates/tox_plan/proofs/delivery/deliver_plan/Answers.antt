-- One more arrival: what it makes was given, and the others are still to come.
use Rattle.std.proofs.Common.{◌≡◌, ◌∷◌, ◌+◌, List, [], drop, sym, ap, subst, ◌∙◌, refl}
use Rattle.std.specs.Prelude.{Any}
use Rattle.tox_time.specs.declared.streams.item.Item.{Item}
use Rattle.tox_time.specs.streams.Arrivals.{arrival_list}
use Rattle.tox_time.specs.streams.Neighbours.{AreNeighbours}
use Rattle.tox_plan.specs.Delivering.{PreservesOutput}
use Rattle.tox_plan.proofs.Deliveries.{IsAhead, ahead_next, ends_at, drop-item, goes-on, neighbours-stored}
use Rattle.tox_plan.proofs.delivery.deliver_plan.Goals as goal

pub loop-item-preserved : goal.loop-item-preserved
loop-item-preserved c =
    let items : List Item = c.items-item-items.result.now in
    let item : Item = c.item-item.result in
    let later : List Item = drop (c.loop-item.item-index + 1) items in
    let split : drop c.loop-item.item-index items ≡ item ∷ later = drop-item c.loop-item.item-index items item c.loop-item-test.true
    ∙ ap (λ item. item ∷ later) (sym c.item-item.is) in
    let ahead : IsAhead c.loop-item.runner (item ∷ later) = subst (λ items. IsAhead c.loop-item.runner items) split c.loop-item.invariant.ahead in
    let so_far : PreservesOutput c.new-runner.result [] (arrival_list items) c.loop-item.runner c.loop-item.slices (arrival_list (item ∷ later))
    = subst (λ rest. PreservesOutput c.new-runner.result [] (arrival_list items) c.loop-item.runner c.loop-item.slices (arrival_list rest)) split
    c.loop-item.invariant.goes in
    let among : Any (λ other. other ≡ item) items = (c.loop-item.item-index, item, c.loop-item-test.true, sym c.item-item.is, refl) in
    record {
      idle = c.in_ok-take_item.ensures.idle;
      ahead = ahead_next c.loop-item.runner c.take_item.new.runner item later ahead c.in_ok-take_item.ensures.latest c.in_ok-take_item.ensures.stands;
      goes = goes-on c.new-runner.result c.loop-item.runner c.take_item.new.runner [] c.loop-item.slices c.take_item.new.slices (arrival_list items)
          (arrival_list (item ∷ later)) (arrival_list later)
          so_far (c.in_ok-take_item.ensures.goes later (ends_at c.loop-item.runner item later ahead));
      neighbours = c.in_ok-take_item.ensures.neighbours items among c.loop-item.invariant.neighbours;
    }

pub returns-clause-neighbours : goal.returns-clause-neighbours
returns-clause-neighbours c =
    let stored : c.items-item-items.result.now ≡ c.args.arrivals.now = c.items-item-items.ensures.stored in
    neighbours-stored c.args.arrivals.now 0 c.loop-item.slices (subst (λ items. AreNeighbours items 0 c.loop-item.slices) stored
    c.loop-item.invariant.neighbours.neighbours)
