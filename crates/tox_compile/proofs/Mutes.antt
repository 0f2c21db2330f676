-- Mutes: what follows one changes its ending alone.
use Rattle.std.proofs.Common.{◌≡◌, [], ◌∷◌, refl, ap, sym, ◌∙◌}
use Rattle.tox_time.specs.declared.streams.ending.Ending.{Ending}
use Rattle.tox_time.specs.streams.Table.{ending, final_of}
use Rattle.tox_words.specs.Draw.{Draws}
use Rattle.tox_defs.specs.declared.operations.op.Op.{Op}
use Rattle.tox_defs.specs.stage.Reaction.{Answer, counted, first_state, flow}
use Rattle.tox_defs.specs.operations.Op.{op_from, op_giving, op_reaction, op_until}
use Rattle.tox_defs.proofs.Finals.{ending-final_of}
use Rattle.tox_defs.proofs.OpStreams.{gives-final}
use Rattle.tox_defs.proofs.FlowLemmas.{flow_from-last}
use Rattle.tox_defs.proofs.Windows.{during-inside, is_outside-final}
use Rattle.tox_compile.specs.Normal.{after_mute}

-- what an operation gives for the ending of a mute
pub flow-after_mute : (op : Op) (draws : Draws) (end : Ending) → flow (op_reaction op draws) (final_of end ∷ []) ≡ final_of (after_mute op end) ∷ []
flow-after_mute op draws end =
    flow_from-last (op_reaction op draws) first_state (final_of end) [] refl
    ∙ ap (λ (answer : Answer). answer.given) (during-inside (op_from op) (op_until op) (counted (op_giving op draws)) first_state (final_of end)
    (is_outside-final (op_from op) (op_until op) end))
    ∙ gives-final op draws first_state end

-- which is the only ending of the final that it gives
pub is-after_mute : (op : Op) (before after : Ending) → op_giving op (λ _ _. 0) first_state (final_of before) ≡ final_of after ∷ []
    → after ≡ after_mute op before
is-after_mute op before after gives = sym (ap ending gives ∙ ending-final_of after)
