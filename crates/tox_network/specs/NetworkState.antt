-- The state of a network: queues with stages between them.
use Rattle.std.specs.Prelude.{ℕ, ◌+◌, List, [], map, length, replicate, Option, Some, None, slice_get, slice_index_or}
use Rattle.tox_time.specs.declared.streams.item.Item.{Item}
use Rattle.tox_defs.specs.declared.operations.state.State.{State}
use Rattle.tox_defs.specs.stage.Reaction.{Reaction, first_state}

-- a toxic at work: its reaction, the state that this is in, and what it gave and has still to put
pub record StageState : Type 0 where
  pub reaction : Reaction
  pub state : State
  pub unsent : List Item

-- the arrivals not yet in; queue k before stage k, and one behind the last; the stages; the list delivered
pub record NetworkState : Type 0 where
  pub arrivals : List Item
  pub queues : List (List Item)
  pub stages : List StageState
  pub delivered : List Item

-- a stage that took nothing yet
abbrev pub idle_stage : Reaction → StageState
idle_stage reaction = record { reaction = reaction; state = first_state; unsent = [] }

-- all arrivals wait, and all else is empty
abbrev pub start : List Reaction → List Item → NetworkState
start reactions arrivals = record {
  arrivals = arrivals;
  queues = replicate (length reactions + 1) [];
  stages = map idle_stage reactions;
  delivered = [];
}

-- queue k
abbrev pub queue : NetworkState → ℕ → List Item
queue n k = slice_index_or n.queues k []

-- what a stage has still to put, where there is one
abbrev pub unsent_of : Option StageState → List Item
unsent_of (Some stage) = stage.unsent
unsent_of None = []

-- what stage k has still to put
abbrev pub unsent_at : NetworkState → ℕ → List Item
unsent_at n k = unsent_of (slice_get n.stages k)
