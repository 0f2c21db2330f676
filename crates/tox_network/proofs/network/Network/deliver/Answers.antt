-- The first item of the last queue was delivered.
use Rattle.std.proofs.Common.{◌≡◌, ◌∷◌, drop, false, length, refl, subst, rules}
use Rattle.tox_time.specs.streams.Stream.{is_final}
use Rattle.tox_network.specs.NetworkState.{queue}
use Rattle.tox_network.specs.NetworkInside.{network_view}
use Rattle.tox_network.specs.NetworkView.{state_of, HasChunkFirst}
use Rattle.tox_network.proofs.Sound.{no_final_yet}
use Rattle.tox_network.proofs.Made.{deliver_made, step_from}
use Rattle.tox_network.proofs.network.Network.deliver.Goals as goal

pub push-requires : goal.push-requires
push-requires c =
    let now = network_view c.self.inside in
    let first : queue (state_of now) (length now.stages) ≡ c.first-item.result ∷ drop 1 (queue (state_of now) (length now.stages)) = search rules in
    no_final_yet now c.first-item.result _ c.self.invariant first

pub returns-then-is_err-clause-memory : goal.returns-then-is_err-clause-memory
returns-then-is_err-clause-memory c = λ _.
    let now = network_view c.self.inside in
    let first : queue (state_of now) (length now.stages) ≡ c.first-item.result ∷ drop 1 (queue (state_of now) (length now.stages)) = search rules in
    let chunk : is_final c.first-item.result ≡ false = search rules in
    let here : HasChunkFirst now = (c.first-item.result, drop 1 (queue (state_of now) (length now.stages)), first, chunk) in
    subst HasChunkFirst c.self.view_is here

pub invariant_of-self-2 : goal.invariant_of-self-2
invariant_of-self-2 c =
    let now = network_view c.self.inside in
    let first : queue (state_of now) (length now.stages) ≡ c.first-item.result ∷ drop 1 (queue (state_of now) (length now.stages)) = search rules in
    (deliver_made now _ c.first-item.result c.self.invariant first (search rules) (search rules) refl refl c.pop.ensures.room refl refl).0

pub returns-clause-moved : goal.returns-clause-moved
returns-clause-moved c =
    let now = network_view c.self.inside in
    let first : queue (state_of now) (length now.stages) ≡ c.first-item.result ∷ drop 1 (queue (state_of now) (length now.stages)) = search rules in
    step_from c.self.view_is
    (deliver_made now _ c.first-item.result c.self.invariant first (search rules) (search rules) refl refl c.pop.ensures.room refl refl)
