-- What is proved of each operation.
use Rattle.std.proofs.Common.{◌≡◌, ◌∙◌, List, [], ◌∷◌, ap, sym}
use Rattle.tox_time.specs.declared.streams.ending.Ending.{Ending}
use Rattle.tox_time.specs.declared.streams.item.Item.{Item}
use Rattle.tox_time.specs.streams.Stream.{IsStream}
use Rattle.tox_time.specs.streams.Table.{ending, final_of}
use Rattle.tox_words.specs.Draw.{Draws}
use Rattle.tox_defs.specs.declared.operations.op.Op.{Op}
use Rattle.tox_defs.specs.declared.operations.state.State.{State}
use Rattle.tox_defs.specs.operations.Op.{IsOp, op_giving, op_reaction}
use Rattle.tox_defs.specs.stage.Reaction.{flow}
use Rattle.tox_defs.proofs.Finals.{ending-final_of}

-- it gives a stream for a stream, and one final for a final, for which it draws no word
pub record OpFacts (op : Op) : Type 0 where
  pub streams : (draws : Draws) (items : List Item) → IsOp op → IsStream items → IsStream (flow (op_reaction op draws) items)
  pub final : (draws : Draws) (state : State) (end : Ending) → op_giving op draws state (final_of end)
      ≡ final_of (ending (op_giving op (λ _ _. 0) state (final_of end))) ∷ []

-- one final is the final of its ending
pub one_final : (given : List Item) (end : Ending) → given ≡ final_of end ∷ [] → given ≡ final_of (ending given) ∷ []
one_final given end is = is ∙ ap (λ last. final_of last ∷ []) (sym (ap ending is ∙ ending-final_of end))
