-- The scope of the rule that has the number.
use Rattle.std.proofs.Common.{ap, ◌∙◌, Some, rules}
use Rattle.std.specs.Prelude.{◌≡◌, option_map, slice_get}
use Rattle.tox_script.specs.Scopes.{scope_of}
use Rattle.tox_script.specs.Views.{rule_view}
use Rattle.tox_script.proofs.script.Script.scope.Goals as goal

pub returns : goal.returns
returns c =
    let lanes = c.args.self.now.settings.lanes in
    let found : Some (rule_view lanes c.in-Some.found.now) ≡ slice_get c.args.self.now.rules c.args.rule = search rules in
    ap Some (c.scope.ensures lanes) ∙ ap (option_map scope_of) found
