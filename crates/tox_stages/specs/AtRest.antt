-- Running stages that have come to rest, as the network that they are.
use Rattle.std.specs.Prelude.{◌≡◌, ℕ, List, Some}
use Rattle.tox_time.specs.declared.streams.item.Item.{Item}
use Rattle.tox_time.specs.declared.streams.outcome.Outcome.{Outcome}
use Rattle.tox_defs.specs.chain.Chain.{Toxics}
use Rattle.tox_defs.specs.Flow.{reactions_of}
use Rattle.tox_network.specs.Rings.{Ring, PassOn, IsRunOf}
use Rattle.tox_network.specs.Shown.{shown}

-- rings over which the stages of a chain passed these items on; a run at rest whose queues were sent and gave what the rings were and did; and it delivered,
-- item by item, what the outcome shows
pub record IsNetworkAtRest (cap : ℕ) (chain : Toxics) (words : List ℕ) (items : List Item)
    (outcome : Outcome) : Type 0 where
  pub rings : List Ring
  pub passed : PassOn (reactions_of chain words) items rings
  pub run : IsRunOf cap (reactions_of chain words) items rings
  pub delivered : run.resting.state.delivered ≡ shown outcome.slices (Some outcome.ending)
