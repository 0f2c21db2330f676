-- A network as a value.
use Rattle.std.specs.Prelude.{◌≡◌, ℕ, ◌+◌, ◌≤◌, ◌<◌, ◌^◌, ◌∷◌, false, List, map, length, Some, slice_get}
use Rattle.tox_time.specs.declared.streams.item.Item.{Item}
use Rattle.tox_time.specs.streams.Stream.{IsStream, is_final}
use Rattle.tox_words.specs.Draw.{DrawingView}
use Rattle.tox_defs.specs.chain.Chain.{Toxics}
use Rattle.tox_defs.specs.declared.chain.applied.Placed.{Placed}
use Rattle.tox_defs.specs.Flow.{reactions_of}
use Rattle.tox_defs.specs.operations.Op.{op_of}
use Rattle.tox_time.specs.streams.StreamPosition.{AllFit}
use Rattle.tox_defs.specs.stage.Stage.{Staged, first_stage, reaction_of}
use Rattle.tox_network.specs.declared.moves.Move.{Move}
use Rattle.tox_network.specs.NetworkState.{NetworkState, StageState, start, queue}
use Rattle.tox_network.specs.Moves.{after}
use Rattle.tox_network.specs.runs.EventualDelivery.{coming, eventual_delivery, moves_left, most_moves}

-- what a network is seen as: the room of each queue, all arrivals, the moves made, and the parts of its state
pub record NetworkView : Type 0 where
  pub cap : ℕ
  pub arrived : List Item
  pub steps : ℕ
  pub waiting : List Item
  pub queues : List (List Item)
  pub stages : List Staged
  pub delivered : List Item

-- a stage without its place in the stream
abbrev pub stage_of : Staged → StageState
stage_of stage =
    record { reaction = reaction_of stage; state = stage.state; unsent = stage.pending }

-- the stage of an applied toxic that was given nothing yet
abbrev pub placed_stage : DrawingView → Placed → Staged
placed_stage drawing placed = first_stage (op_of placed.place placed.toxic) drawing

-- the state that a network is in
abbrev pub state_of : NetworkView → NetworkState
state_of network = record {
  arrivals = network.waiting;
  queues = network.queues;
  stages = map stage_of network.stages;
  delivered = network.delivered;
}

-- no move was made yet
pub record IsStart (chain : Toxics) (words : List ℕ) (items : List Item) (room : ℕ)
    (network : NetworkView) : Type 0 where
  pub state : state_of network ≡ start (reactions_of chain words) items
  pub cap : network.cap ≡ room
  pub arrived : network.arrived ≡ items
  pub steps : network.steps ≡ 0

-- the move was possible, and leads from one network to the other
pub record IsStep (move : Move) (old new : NetworkView) : Type 0 where
  pub moved : after old.cap (state_of old) move ≡ Some (state_of new)
  pub counted : new.steps ≡ old.steps + 1
  pub cap : new.cap ≡ old.cap
  pub arrived : new.arrived ≡ old.arrived
  -- no move changes the eventual delivery, and each is one less of those still to make
  pub eventual : eventual_delivery (state_of new) ≡ eventual_delivery (state_of old)
  pub left : moves_left (state_of old) ≡ moves_left (state_of new) + 1

-- the next item to be delivered is a chunk
abbrev pub HasChunkFirst : NetworkView → Type 0
HasChunkFirst network =
    (item : Item) × (rest : List Item)
    × (queue (state_of network) (length network.stages) ≡ item ∷ rest) × (is_final item ≡ false)

-- what every move keeps
pub record IsSoundNetwork (network : NetworkView) : Type 0 where
  pub room : 1 ≤ network.cap
  -- a queue before each stage and one behind the last
  pub shaped : length network.queues ≡ length network.stages + 1
  -- each stage may take what comes to it
  pub fits : (k : ℕ) (stage : Staged) → slice_get network.stages k ≡ Some stage
      → AllFit stage.place (coming (state_of network) k)
  -- what was delivered and will be is a stream
  pub whole : IsStream (eventual_delivery (state_of network))
  pub few : network.steps + moves_left (state_of network)
      ≤ most_moves (length network.stages) network.arrived
  pub small : most_moves (length network.stages) network.arrived < 2 ^ 64
