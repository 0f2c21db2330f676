-- The rules of the front are met before those of the back.
use Rattle.std.proofs.Common.{ap, ◌∙◌}
use Rattle.std.specs.Option.{option_or}
use Rattle.tox_script.specs.Covering.{covers}
use Rattle.tox_script.specs.index.Steps.{rule_at}
use Rattle.tox_script.specs.Views.{rule_view}
use Rattle.tox_words.specs.declared.lanes.Lanes.TheVariants.{Sixteen}
use Rattle.tox_script.proofs.Indexing.{IfOk-then, overlaid}
use Rattle.tox_script.proofs.index.+steps_of.Goals as goal

pub returns-in_ok-lower-in_default-clause-found : goal.returns-in_ok-lower-in_default-clause-found
returns-in_ok-lower-in_default-clause-found t c =
    IfOk-then c.overlay.result (λ steps found conn below.
    found conn
    ∙ ap (λ xs. option_or (rule_at conn xs) (rule_at conn c.deref-in_default.result.now)) c.deref.ensures.value
    ∙ ap (λ xs. option_or (rule_at conn c.in_ok-upper-in_default.upper.items) (rule_at conn xs)) c.deref-in_default.ensures.value
    ∙ overlaid (λ rule. covers c.args.proxy.now conn (rule_view Sixteen rule)) c.args.number c.args.rules.now _ _ _ _ c.split_at.ensures.by_index.0
    (c.in_ok-upper-in_default.ensures.found conn below) (c.in_ok-lower-in_default.ensures.found conn below)) c.overlay.ensures.found
