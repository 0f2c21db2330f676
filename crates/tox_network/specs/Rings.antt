-- The network in running threads: a ring in place of each queue, at work all at once.
use Rattle.std.specs.Prelude.{◌≡◌, ℕ, List, [], ◌∷◌, ◌++◌, length, Some, slice_get}
use Rattle.std.specs.Option.{option_map_or}
use Rattle.tox_time.specs.declared.streams.item.Item.{Item}
use Rattle.tox_defs.specs.stage.Reaction.{Reaction, flow}
use Rattle.tox_network.specs.declared.moves.Move.{Move}
use Rattle.tox_network.specs.NetworkState.{NetworkState, start}
use Rattle.tox_network.specs.Moves.{after, entering, leaving}
use Rattle.tox_network.specs.runs.Runs.{RestingRun}

-- all that a ring was sent, and all that it gave
pub record Ring : Type 0 where
  pub sent : List Item
  pub given : List Item

-- each ring gave what it was sent: the first one these items, and each further one the flow of what the stage before it was given
abbrev pub PassOn : List Reaction → List Item → List Ring → Type 0
PassOn reactions items [] = ⊥
PassOn [] items (ring ∷ rings) = (ring.sent ≡ items) × (ring.given ≡ ring.sent) × (rings ≡ [])
PassOn (reaction ∷ reactions) items (ring ∷ rings) =
    (ring.sent ≡ items) × (ring.given ≡ ring.sent)
    × PassOn reactions (flow reaction ring.given) rings

-- all that entered queue k by these moves
abbrev pub sent_in : ℕ → List Move → NetworkState → ℕ → List Item
sent_in cap [] n k = []
sent_in cap (move ∷ moves) n k =
    entering n move k ++ option_map_or (λ t. sent_in cap moves t k) (after cap n move) []

-- all that left queue k by these moves
abbrev pub given_in : ℕ → List Move → NetworkState → ℕ → List Item
given_in cap [] n k = []
given_in cap (move ∷ moves) n k =
    leaving n move k ++ option_map_or (λ t. given_in cap moves t k) (after cap n move) []

-- a run at rest whose queues were sent and gave what the rings were and did, and which delivered what the last one gave
pub record IsRunOf (cap : ℕ) (reactions : List Reaction) (items : List Item)
    (rings : List Ring) : Type 0 where
  pub resting : RestingRun cap (start reactions items)
  pub sent : (k : ℕ) (ring : Ring) → slice_get rings k ≡ Some ring
      → sent_in cap resting.moves (start reactions items) k ≡ ring.sent
  pub given : (k : ℕ) (ring : Ring) → slice_get rings k ≡ Some ring
      → given_in cap resting.moves (start reactions items) k ≡ ring.given
  pub delivered : (ring : Ring) → slice_get rings (length reactions) ≡ Some ring
      → resting.state.delivered ≡ ring.given
