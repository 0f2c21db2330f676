-- What a contract sees of a `Network`, and what its fields keep.
use Rattle.tox_network.specs.declared.network.Network.TheInside.{Inside}
use Rattle.tox_network.specs.NetworkView.{NetworkView, IsSoundNetwork}

abbrev pub network_view : Inside → NetworkView
network_view network = record {
  cap = network.queues.room;
  arrived = network.waiting.arrived;
  steps = network.steps;
  waiting = network.waiting.waiting;
  queues = network.queues.lists;
  stages = network.stages.items;
  delivered = network.delivered;
}

abbrev pub KeepsNetwork : Inside → Type 0
KeepsNetwork network = IsSoundNetwork (network_view network)
