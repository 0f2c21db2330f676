-- Toxics give streams for streams, since their operations do, and no more bytes than they took.
use Rattle.std.proofs.Common.{ℕ, ◌≤◌, List, subst}
use Rattle.tox_time.specs.declared.streams.item.Item.{Item}
use Rattle.tox_time.specs.streams.Stream.{IsStream, arrived}
use Rattle.tox_defs.specs.declared.toxic.Toxic.{Toxic}
use Rattle.tox_defs.specs.Toxic.{IsInRange}
use Rattle.tox_defs.specs.Flow.{toxic_reaction}
use Rattle.tox_defs.specs.Laws.{toxic_flow}
use Rattle.tox_defs.specs.operations.Op.{op_of}
use Rattle.tox_defs.specs.stage.Reaction.{Reaction, flow}
use Rattle.tox_defs.proofs.OpStreams.{IsStream-op_flow}
use Rattle.tox_defs.proofs.PassedBytes.{arrived-flow_from}
use Rattle.tox_defs.proofs.ToxicProofs.{toxic_facts}

pub IsStream-toxic_flow : (toxic : Toxic) (words : ℕ → ℕ) (items : List Item) → IsInRange toxic → IsStream items → IsStream (toxic_flow toxic words items)
IsStream-toxic_flow toxic words items fits stream =
    let facts = toxic_facts toxic in
    subst (λ (reaction : Reaction). IsStream (flow reaction items)) (facts.reacts 0 (λ _. words))
    (IsStream-op_flow (op_of 0 toxic) (λ _. words) items (facts.is_op 0 fits) stream)

pub arrived-toxic_flow : (toxic : Toxic) (words : ℕ → ℕ) (items : List Item) → arrived (toxic_flow toxic words items) ≤ arrived items
arrived-toxic_flow toxic words items = arrived-flow_from (toxic_reaction toxic words) ((toxic_facts toxic).passes words) _ items
