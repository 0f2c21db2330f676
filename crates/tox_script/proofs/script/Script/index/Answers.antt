-- Whatever the lanes, the rules cover the same connections.
use Rattle.std.proofs.Common.{ap, ◌∙◌}
use Rattle.std.specs.List.{position_from}
use Rattle.tox_script.specs.Covering.{covers}
use Rattle.tox_script.specs.Rule.{Rules}
use Rattle.tox_script.specs.Views.{rule_view}
use Rattle.tox_words.specs.declared.lanes.Lanes.TheVariants.{Sixteen}
use Rattle.tox_script.proofs.Indexing.{IfOk-then, position_from-map}
use Rattle.tox_script.proofs.script.Script.index.Goals as goal

pub returns : goal.returns
returns c =
    let all = c.self.inside.rules.items in
    let viewed = rule_view c.self.inside.settings.lanes in
    IfOk-then c.of.result (λ index found conn below.
    found conn below
    ∙ ap (position_from (λ rule. covers c.args.proxy.now conn (rule_view Sixteen rule)) 0) c.deref.ensures.value
    ∙ position_from-map (covers c.args.proxy.now conn) viewed 0 all
    ∙ ap (λ (script : Rules). position_from (covers c.args.proxy.now conn) 0 script.rules) c.self.view_is) c.of.ensures
