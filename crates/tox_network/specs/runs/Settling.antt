-- Moves that follow a list as far as it goes.
use Rattle.std.specs.Prelude.{◌≡◌, ℕ, ◌+◌, List, [], ◌∷◌, if◌then◌else◌, is_some, Option, Some, None, drop, length, slice_get}
use Rattle.tox_network.specs.declared.moves.Move.{Move}
use Rattle.tox_network.specs.declared.moves.Move.TheVariants.{Deliver}
use Rattle.tox_network.specs.NetworkState.{NetworkState}
use Rattle.tox_network.specs.Moves.{after}
use Rattle.tox_network.specs.runs.Runs.{IsRun}
use Rattle.tox_network.specs.Possible.{possible}
use Rattle.tox_network.specs.NetworkView.{NetworkView, state_of, HasChunkFirst}

-- the move of a turn: the listed one where it is possible, else the default move
abbrev pub turn : ℕ → Option Move → NetworkState → Option Move
turn cap (Some move) n = if is_some (after cap n move) then Some move else possible n
turn cap None n = possible n

-- each turn takes the next move off the list
abbrev pub FollowsTurns : ℕ → List Move → List Move → NetworkState → Type 0
FollowsTurns cap listed [] n = Unit {0}
FollowsTurns cap listed (move ∷ made) n =
    (turn cap (slice_get listed 0) n ≡ Some move)
    × ((t : NetworkState) → after cap n move ≡ Some t → FollowsTurns cap (drop 1 listed) made t)

-- some moves that follow the list lead from one network to the other
pub record Settles (listed : List Move) (old new : NetworkView) : Type 0 where
  pub made : List Move
  pub run : IsRun old.cap (state_of old) made (state_of new)
  pub rule : FollowsTurns old.cap listed made (state_of old)
  pub counted : new.steps ≡ old.steps + length made
  pub cap : new.cap ≡ old.cap
  pub arrived : new.arrived ≡ old.arrived

-- the turn after some moves that follow the list delivers a chunk
pub record IsRefusedAt (listed : List Move) (old new : NetworkView) : Type 0 where
  pub settles : Settles listed old new
  pub delivers : turn old.cap (slice_get listed (length settles.made)) (state_of new) ≡ Some Deliver
  pub chunk : HasChunkFirst new
