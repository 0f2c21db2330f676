-- The closure tests each rule.
use Rattle.std.proofs.Common.{rules, tests, option_map, map, sym, ap, ◌∙◌}
use Rattle.std.specs.List.{find}
use Rattle.std.proofs.lemmas.Iterator.{YieldsList-from_slice}
use Rattle.std.proofs.lemmas.Iterator.Search.{find_from_yields_List}
use Rattle.tox_script.specs.Covering.{covers}
use Rattle.tox_script.specs.Views.{rule_view}
use Rattle.tox_script.proofs.Mapped.{find-map, option_map-now}
use Rattle.tox_script.proofs.script.Script.covering.Goals as goal

pub returns : goal.returns
returns c =
    let test = covers c.args.proxy.now c.args.conn in
    let all = c.self.inside.rules.items in
    let viewed = rule_view c.args.self.now.settings.lanes in
    option_map-now viewed c.find.result
    ∙ ap (option_map viewed)
    (find_from_yields_List (λ rule. test (viewed rule)) _ _ c.find.result c.find.ensures.ran
    (YieldsList-from_slice all (cc)) (λ x b q k. search (rules, tests)))
    ∙ find-map test viewed all
    ∙ ap (λ script. find test (map (rule_view script.settings.lanes) all)) (sym c.self.view_is)
    ∙ ap (λ script. find test script.rules) c.self.view_is
