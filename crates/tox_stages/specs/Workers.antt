-- Which worker a promise speaks of.
use Rattle.std.specs.Prelude.{◌≡◌, ℕ, List, []}
use Rattle.std.specs.declared.alloc.Global.{Global}
use Rattle.tox_time.specs.declared.streams.item.Item.{Item}
use Rattle.rtrb.specs.declared.AnyItems.{AnyItems}
use Rattle.rtrb.specs.declared.consumer.Consumer.{Consumer}
use Rattle.rtrb.specs.Ring.{received, IsPair}
use Rattle.tox_words.specs.declared.lanes.Lanes.{Lanes}
use Rattle.tox_defs.specs.declared.chain.applied.Placed.{Placed}
use Rattle.tox_stages.specs.declared.worker.SendsFlowOf.{SendsFlowOf}

-- the worker of this toxic, which takes from the first of these consumers, and sends to the ring of the second, out of which nothing came yet
pub record IsWorkerOf (promise : SendsFlowOf) (placed : Placed) (lanes : Lanes) (words : List ℕ)
    (consumer next : Consumer Item Global AnyItems) : Type 0 where
  pub same_toxic : promise.placed ≡ placed
  pub same_lanes : promise.lanes ≡ lanes
  pub same_words : promise.words.now ≡ words
  pub same_consumer : promise.consumer.value ≡ consumer
  pub pair : IsPair promise.producer.value next
  pub unread : received next ≡ []
