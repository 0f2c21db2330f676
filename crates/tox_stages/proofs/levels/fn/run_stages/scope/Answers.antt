-- The first ring was sent the arrivals.
use Rattle.std.proofs.Common.{◌≡◌, ◌++◌, Some, map, ◌∙◌, subst}
use Rattle.rtrb.specs.Ring.{received, known_items}
use Rattle.tox_time.specs.streams.Arrivals.{arrival_list}
use Rattle.tox_defs.specs.Flow.{chain_draws, placed_reaction, reactions_of}
use Rattle.tox_network.specs.Shown.{shown}
use Rattle.tox_network.proofs.ShownItems.{outcome_shown}
use Rattle.tox_stages.specs.Passing.{PassesOn, Delivers}
use Rattle.tox_stages.proofs.Joined.{from_ring}
use Rattle.tox_stages.proofs.Rested.{network_at_rest, delivered_neighbours}
use Rattle.tox_stages.proofs.levels.fn.run_stages.scope.Goals as goal

pub returns : goal.returns
returns g c =
    let chain = c.captures.chain.now in
    let words = c.captures.words.now in
    let items = arrival_list c.captures.arrivals.now in
    let outcome = c.in_ok-consumer.outcome in
    let delivered = shown outcome.slices (Some outcome.ending) in
    let below = received c.in_ok-consumer.consumer in
    let known = known_items c.slots_beside.new.self in
    let ring : below ++ known ≡ items = cc (
      c.slots_beside.ensures.fifo,
      c.slots_beside.ensures.looked.1,
      c.slots_beside.ensures.producer.1,
      c.in_ok-consumer.ensures.sent.whole,
    ) in
    let passes : PassesOn (reactions_of chain words) items delivered = from_ring (reactions_of chain words) items below known delivered
    c.in_ok-consumer.ensures.sent.stream ring (subst (λ toxics. Delivers (map (placed_reaction (chain_draws chain words)) toxics) below delivered)
    (c.deref.ensures.0 ∙ c.applied-toxics.ensures.value) (rw c.lanes.ensures at c.in_ok-consumer.ensures.delivered)) in
    record {
      flow = outcome_shown outcome _ passes.flowed;
      neighbours = delivered_neighbours chain words items outcome c.applied-toxics.ensures.chain passes;
      network = network_at_rest c.captures.cap chain words items outcome c.requires passes;
      refused = λ same. absurd (let ok = same in cc);
    }
