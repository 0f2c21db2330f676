-- The laws of every run of a chain's network, whatever the order of its moves and the room of its queues.
use Rattle.std.specs.Prelude.{◌≡◌, ℕ, ◌≤◌, List, length}
use Rattle.tox_time.specs.declared.streams.item.Item.{Item}
use Rattle.tox_time.specs.streams.Stream.{IsPrefix}
use Rattle.tox_defs.specs.chain.Chain.{Toxics}
use Rattle.tox_defs.specs.Flow.{reactions_of, chain_flow}
use Rattle.tox_network.specs.declared.moves.Move.{Move}
use Rattle.tox_network.specs.NetworkState.{NetworkState, start, queue}
use Rattle.tox_network.specs.runs.Runs.{IsRun, RestingRun, OfEveryRun, OfEveryRest}
use Rattle.tox_network.specs.runs.EventualDelivery.{eventual_delivery, moves_left, most_moves, IsEmpty}
use Rattle.tox_network.specs.Rings.{Ring, PassOn, IsRunOf}

-- what the runs of a chain's network keep and what they come to
pub record HasRunLaws (chain : Toxics) (words : List ℕ) (items : List Item) : Type 0 where
  -- the eventual delivery is the chain's flow at every moment, so what is delivered is a prefix of it
  pub eventual : OfEveryRun chain words items (λ moves n. eventual_delivery n ≡ chain_flow chain words items)
  pub prefix : OfEveryRun chain words items
      (λ moves n. IsPrefix n.delivered (chain_flow chain words items))
  -- no queue ever holds more items than it has room for
  pub room : (cap : ℕ) (moves : List Move) (n : NetworkState) → 1 ≤ cap
      → IsRun cap (start (reactions_of chain words) items) moves n → (k : ℕ)
      → length (queue n k) ≤ cap
  -- no run makes more moves than that
  pub short : OfEveryRun chain words items
      (λ moves n. length moves ≤ most_moves (length (reactions_of chain words)) items)
  -- at rest nothing waits, the whole flow is delivered, and the number of moves is the same whatever their order
  pub empty : OfEveryRest chain words items (λ moves n. IsEmpty n)
  pub delivers : OfEveryRest chain words items
      (λ moves n. n.delivered ≡ chain_flow chain words items)
  pub moves : OfEveryRest chain words items
      (λ moves n. length moves ≡ moves_left (start (reactions_of chain words) items))
  -- some run comes to rest, and where stages pass all on over rings, what went over these is what goes through the queues of such a run
  pub rests : (cap : ℕ) → 1 ≤ cap → RestingRun cap (start (reactions_of chain words) items)
  pub rings : (cap : ℕ) (rings : List Ring) → 1 ≤ cap
      → PassOn (reactions_of chain words) items rings
      → IsRunOf cap (reactions_of chain words) items rings
