-- The toxics of the first rules are counted.
use Rattle.std.proofs.Common.{◌≡◌, length, sum_by, take}
use Rattle.tox_script.specs.Rule.{Rule}
use Rattle.tox_check.specs.Checking.{held}
use Rattle.tox_check.proofs.check.toxic_count.Given as goal

abbrev pub invariant-loop-rule : goal.invariant-loop-rule
invariant-loop-rule l = l.count ≡ held (sum_by (λ (rule : Rule). length rule.order) (take l.rule l.script.rules))
