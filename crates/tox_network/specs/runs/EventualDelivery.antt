-- The eventual delivery of a network, which no move changes, and the moves that are left.
use Rattle.std.specs.Prelude.{◌≡◌, ℕ, zero, suc, ◌+◌, ◌*◌, List, [], ◌++◌, length, Option, Some, None, slice_get}
use Rattle.tox_time.specs.declared.streams.item.Item.{Item}
use Rattle.tox_time.specs.streams.Stream.{arrived}
use Rattle.tox_defs.specs.stage.Reaction.{flow_from}
use Rattle.tox_network.specs.NetworkState.{NetworkState, StageState, queue}

-- what a stage has still to put, and then what it gives for these items
abbrev pub to_give : Option StageState → List Item → List Item
to_give (Some stage) items = stage.unsent ++ flow_from stage.reaction stage.state items
to_give None items = []

-- what queue k holds, and then what is still to enter it
abbrev pub coming : NetworkState → ℕ → List Item
coming n zero = queue n 0 ++ n.arrivals
coming n (suc k) = queue n (k + 1) ++ to_give (slice_get n.stages k) (coming n k)

-- what is still to enter queue k
abbrev pub to_enter : NetworkState → ℕ → List Item
to_enter n zero = n.arrivals
to_enter n (suc k) = to_give (slice_get n.stages k) (coming n k)

-- the eventual delivery: what is delivered, and then all that will be
abbrev pub eventual_delivery : NetworkState → List Item
eventual_delivery n = n.delivered ++ coming n (length n.stages)

-- the sum of f from 0 to k
abbrev pub sum_to : (ℕ → ℕ) → ℕ → ℕ
sum_to f zero = f 0
sum_to f (suc k) = sum_to f k + f (suc k)

-- the moves still to make: one for each item that is still to enter a queue, and one for each that is still to leave it
abbrev pub moves_left : NetworkState → ℕ
moves_left n = sum_to (λ k. length (to_enter n k) + length (coming n k)) (length n.stages)

-- the most moves of a network with so many stages, for these arrivals
abbrev pub most_moves : ℕ → List Item → ℕ
most_moves stages arrivals = (2 * stages + 2) * (arrived arrivals + 1)

-- nothing waits: all arrivals are in, and each queue and each list still to put is empty
pub record IsEmpty (n : NetworkState) : Type 0 where
  pub arrivals : n.arrivals ≡ []
  pub queues : (k : ℕ) → queue n k ≡ []
  pub unsent : (k : ℕ) (stage : StageState) → slice_get n.stages k ≡ Some stage → stage.unsent ≡ []
