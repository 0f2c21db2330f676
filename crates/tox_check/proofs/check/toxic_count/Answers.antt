-- The toxics of one rule more.
use Rattle.std.proofs.Common.{◌≡◌, ◌+◌, ◌-◌, ◌^◌, ◌<◌, ℕ, [], ◌∷◌, ap, arith, get_or, length, min, sum_by, sym, take, ◌∙◌}
use Rattle.std.specs.Prelude.{option_map, unwrap_or}
use Rattle.std.proofs.lemmas.List.{take_more}
use Rattle.std.proofs.lemmas.List.Sums.{sum_by-append}
use Rattle.std.proofs.lemmas.Option.{slice_get-get_or}
use Rattle.tox_script.specs.Rule.{Rule}
use Rattle.tox_check.specs.Checking.{held}
use Rattle.tox_check.proofs.NumberedRules.{no_rule}
use Rattle.tox_check.proofs.RuleLines.{held-plus}
use Rattle.tox_check.proofs.check.toxic_count.Goals as goal

pub loop-rule-preserved : goal.loop-rule-preserved
loop-rule-preserved c =
    let rules = c.args.script.now.rules in
    let k = c.loop-rule.rule in
    let count : Rule → ℕ = λ rule. length rule.order in
    let below : k < length rules = omega (arith, c.loop-rule-test.true, c.rule_count-rule-end.ensures) in
    let order = ap length (c.order.ensures ∙ ap (λ rule. unwrap_or (option_map (λ (r : Rule). r.order) rule) []) (slice_get-get_or rules k no_rule below)) in
    let more = sum_by-append count (take k rules) (get_or rules k no_rule ∷ []) in
    let single : sum_by count (get_or rules k no_rule ∷ []) ≡ length (get_or rules k no_rule).order = omega arith in
    let next = ap (sum_by count) (take_more rules k no_rule below) in
    c.saturating_add-count.ensures
    ∙ ap (λ n. min (n + length c.order.result.now) (2 ^ 64 - 1)) c.loop-rule.invariant
    ∙ ap (λ n. min (held (sum_by count (take k rules)) + n) (2 ^ 64 - 1)) order
    ∙ held-plus (2 ^ 64 - 1) (sum_by count (take k rules)) (length (get_or rules k no_rule).order)
    ∙ ap held (sym (next ∙ more ∙ ap (λ n. sum_by count (take k rules) + n) single))
