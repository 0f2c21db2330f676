-- What a worker and a level promise of the items that they received.
use Rattle.std.specs.Prelude.{◌≡◌, ◌^◌, ◌≤◌, List, ◌++◌}
use Rattle.tox_time.specs.declared.streams.item.Item.{Item}
use Rattle.tox_time.specs.streams.Stream.{IsStream, arrived}
use Rattle.tox_defs.specs.stage.Reaction.{Reaction, flow, flow_through}
use Rattle.tox_network.specs.Rings.{Ring, PassOn}

-- a stream of as many bytes as a link may carry
pub record IsLinkStream (items : List Item) : Type 0 where
  pub stream : IsStream items
  pub few : arrived items ≤ 2 ^ 40

-- all of such a stream was sent, and nothing else
pub record SendsAll (items given : List Item) : Type 0 where
  pub stream : IsLinkStream items
  pub whole : given ≡ items

-- the first items of such a stream
abbrev pub BeginsStream : List Item → Type 0
BeginsStream items = (rest : List Item) × IsLinkStream (items ++ rest)

-- where a worker received the first items of a stream, these are the whole stream, and it sent their flow
pub record SendsFlow (reaction : Reaction) (received sent : List Item) : Type 0 where
  pub whole : BeginsStream received → IsLinkStream received
  pub flowed : BeginsStream received → sent ≡ flow reaction received

-- a whole stream passed on over rings from stage to stage, the first ring giving what was received, and what came out of the last
pub record PassesOn (reactions : List Reaction) (received delivered : List Item) : Type 0 where
  pub whole : IsLinkStream received
  pub rings : List Ring
  pub passed : PassOn reactions received rings
  pub flowed : delivered ≡ flow_through reactions received

-- where the first items of a stream were received, these are the whole stream, and it was passed on
abbrev pub Delivers : List Reaction → List Item → List Item → Type 0
Delivers reactions received delivered =
    BeginsStream received → PassesOn reactions received delivered
