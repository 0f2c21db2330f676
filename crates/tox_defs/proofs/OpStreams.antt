-- Operations give streams for streams, and one final for a final.
use Rattle.std.proofs.Common.{◌≡◌, List, [], ◌∷◌}
use Rattle.tox_time.specs.declared.streams.ending.Ending.{Ending}
use Rattle.tox_time.specs.declared.streams.item.Item.{Item}
use Rattle.tox_time.specs.streams.Stream.{IsStream}
use Rattle.tox_time.specs.streams.Table.{ending, final_of}
use Rattle.tox_words.specs.Draw.{Draws}
use Rattle.tox_defs.specs.declared.operations.op.Op.{Op}
use Rattle.tox_defs.specs.declared.operations.state.State.{State}
use Rattle.tox_defs.specs.operations.Op.{IsOp, op_giving, op_reaction}
use Rattle.tox_defs.specs.stage.Reaction.{flow}
use Rattle.tox_defs.proofs.ToxicProofs.{op_facts}

pub IsStream-op_flow : (op : Op) (draws : Draws) (items : List Item) → IsOp op → IsStream items → IsStream (flow (op_reaction op draws) items)
IsStream-op_flow op = (op_facts op).streams

pub gives-final : (op : Op) (draws : Draws) (state : State) (end : Ending)
    → op_giving op draws state (final_of end) ≡ final_of (ending (op_giving op (λ _ _. 0) state (final_of end))) ∷ []
gives-final op = (op_facts op).final
