-- One rule behind the other.
use Rattle.std.proofs.Common.{◌+◌, ◌-◌, ◌^◌, ◌<◌, ◌≤◌, List, ℕ, arith, ap, flat_map, get_or, length, min, refl, take, take_all, ◌∙◌}
use Rattle.std.specs.List.{enumerate_from}
use Rattle.std.proofs.lemmas.List.FromFn.{length-enumerate_from}
use Rattle.std.proofs.lemmas.Option.{slice_get-get_or}
use Rattle.tox_script.specs.Rule.{Rule}
use Rattle.tox_check.specs.Checking.{held}
use Rattle.tox_check.specs.Lines.{rule_lines}
use Rattle.tox_check.specs.Printing.{joined_lines}
use Rattle.tox_check.specs.Trees.{runs_named}
use Rattle.tox_check.proofs.LinesThen.{IfOk-failed}
use Rattle.tox_check.proofs.NumberedRules.{IsAt-numbered, no_rule}
use Rattle.tox_check.proofs.RuleLines.{held-more, joined_lines-flat_map}
use Rattle.tox_text.proofs.Printings.{Prints-all, Prints-as, Prints-more, Prints-none, Prints-passed, Prints-stopped}
use Rattle.tox_check.proofs.check.print_rules.Goals as goal

pub loop-rule-init : goal.loop-rule-init
loop-rule-init g c = record { passed = Prints-none c.requires.works; counted = refl }

pub loop-rule-preserved : goal.loop-rule-preserved
loop-rule-preserved g c =
    let setup = c.args.setup.now in
    let rules = setup.script.rules in
    let k = c.loop-rule.rule in
    let lines : ℕ × Rule → List (List ℕ) = λ numbered. rule_lines setup.proxies.items (runs_named setup.proxies.items c.args.trees.now) numbered.0 numbered.1 in
    let below : k < length rules = omega (arith, c.loop-rule-test.true, c.requires.rules) in
    let printed = c.in_ok-count.ensures (get_or rules k no_rule) (slice_get-get_or rules k no_rule below) in
    let here = IsAt-numbered rules k below in
    record {
      passed = Prints-more (λ numbered. joined_lines (lines numbered)) here c.loop-rule.invariant.passed (Prints-passed printed.0);
      counted = c.saturating_add-warned.ensures
          ∙ ap (λ n. min (n + c.in_ok-count.count) (2 ^ 64 - 1)) c.loop-rule.invariant.counted
          ∙ ap (λ n. min (held (length (flat_map lines (take k (enumerate_from 1 rules)))) + n) (2 ^ 64 - 1)) printed.1
          ∙ held-more lines (enumerate_from 1 rules) k _ here;
    }

pub returns-in_err-count : goal.returns-in_err-count
returns-in_err-count g c =
    let setup = c.args.setup.now in
    let rules = setup.script.rules in
    let k = c.loop-rule.rule in
    let lines : ℕ × Rule → List (List ℕ) = λ numbered. rule_lines setup.proxies.items (runs_named setup.proxies.items c.args.trees.now) numbered.0 numbered.1 in
    let below : k < length rules = omega (arith, c.loop-rule-test.true, c.requires.rules) in
    let front = c.in_err-count.ensures (get_or rules k no_rule) (slice_get-get_or rules k no_rule below) in
    let here = IsAt-numbered rules k below in (
      Prints-as (joined_lines-flat_map lines (enumerate_from 1 rules)) (Prints-stopped (λ numbered. joined_lines (lines numbered)) here
          c.from_residual.ensures.1 c.loop-rule.invariant.passed front.0),
      IfOk-failed _ _ c.from_residual.result c.from_residual.ensures.1,
    )

pub returns : goal.returns
returns g c =
    let setup = c.args.setup.now in
    let rules = setup.script.rules in
    let k = c.loop-rule.rule in
    let numbered = enumerate_from 1 rules in
    let lines : ℕ × Rule → List (List ℕ) = λ rule. rule_lines setup.proxies.items (runs_named setup.proxies.items c.args.trees.now) rule.0 rule.1 in
    let past : length numbered ≤ k = omega (arith, length-enumerate_from 1 rules, c.loop-rule-test.false, c.requires.rules) in (
      Prints-as (joined_lines-flat_map lines numbered) (Prints-all (λ rule. joined_lines (lines rule)) _ _ past (Prints-passed c.loop-rule.invariant.passed)),
      c.loop-rule.invariant.counted ∙ ap (λ some. held (length (flat_map lines some))) (take_all k numbered past),
    )
