-- The latest step that doesn't begin behind the connection has its rule.
use Rattle.std.proofs.Common.{◌<◌, ◌≤◌, ◌∙◌, List, length, sym, ap, rules, get_or}
use Rattle.tox_script.specs.declared.index.step.Step.{Step}
use Rattle.tox_script.proofs.Latest.{rule_at-found, rule_at-past}
use Rattle.tox_script.proofs.index.rule_index.RuleIndex.rule.Goals as goal

pub returns-then-latest-len : goal.returns-then-latest-len
returns-then-latest-len c =
    let within : c.later-latest.result < length c.args.self.now = rw (← c.self.view_is) (search rules) in
    let here = rule_at-found c.args.conn c.args.self.now c.later-latest.result c.index.result.now c.later-latest.ensures within in
    ap (λ (step : Step). step.rule) c.index.ensures
    ∙ ap (λ (steps : List Step). (get_or steps c.later-latest.result c.index.result.now).rule) c.self.view_is
    ∙ sym here

pub returns-else-latest-len : goal.returns-else-latest-len
returns-else-latest-len c =
    let past : length c.args.self.now ≤ c.later-latest.result = rw (← c.self.view_is) (search rules) in
    sym (rule_at-past c.args.conn c.args.self.now c.later-latest.result c.later-latest.ensures past)
