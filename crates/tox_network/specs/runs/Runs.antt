-- Runs of a network: moves that are each possible in their turn.
use Rattle.std.specs.Prelude.{◌≡◌, ℕ, ◌≤◌, List, [], ◌∷◌, Option, Some, None}
use Rattle.std.specs.Option.{option_and_then}
use Rattle.tox_time.specs.declared.streams.item.Item.{Item}
use Rattle.tox_defs.specs.chain.Chain.{Toxics}
use Rattle.tox_defs.specs.Flow.{reactions_of}
use Rattle.tox_network.specs.declared.moves.Move.{Move}
use Rattle.tox_network.specs.NetworkState.{NetworkState, start}
use Rattle.tox_network.specs.Moves.{after}

-- the network after these moves, or None where one is not possible in its turn
abbrev pub after_all : ℕ → List Move → NetworkState → Option NetworkState
after_all cap [] n = Some n
after_all cap (move ∷ moves) n = option_and_then (after_all cap moves) (after cap n move)

-- these moves, each of them possible in its turn, lead from one network to the other
abbrev pub IsRun : ℕ → NetworkState → List Move → NetworkState → Type 0
IsRun cap from moves to = after_all cap moves from ≡ Some to

-- no move is possible
abbrev pub IsAtRest : ℕ → NetworkState → Type 0
IsAtRest cap n = (move : Move) → after cap n move ≡ None

-- a fact of every run of a chain's network, whatever the room of its queues and the order of its moves
abbrev pub OfEveryRun : Toxics → List ℕ → List Item → (List Move → NetworkState → Type 0) → Type 0
OfEveryRun chain words arrivals P =
    (cap : ℕ) (moves : List Move) (n : NetworkState) → 1 ≤ cap
    → IsRun cap (start (reactions_of chain words) arrivals) moves n → P moves n

-- a fact of every such run that has come to rest
abbrev pub OfEveryRest : Toxics → List ℕ → List Item → (List Move → NetworkState → Type 0) → Type 0
OfEveryRest chain words arrivals P =
    (cap : ℕ) (moves : List Move) (n : NetworkState) → 1 ≤ cap
    → IsRun cap (start (reactions_of chain words) arrivals) moves n → IsAtRest cap n → P moves n

-- a run that came to rest
pub record RestingRun (cap : ℕ) (from : NetworkState) : Type 0 where
  pub moves : List Move
  pub state : NetworkState
  pub run : IsRun cap from moves state
  pub rest : IsAtRest cap state
