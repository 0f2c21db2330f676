-- Runs of rules before the rule's own are all taken, and none of them is shown.
use Rattle.std.proofs.Common.{◌≤◌, length, ap, arith, refl}
use Rattle.tox_check.proofs.TakenSteps.{HasRuns-count}
use Rattle.tox_check.proofs.rule_runs.RuleRuns.count.Goals as goal

pub returns-clause-runs : goal.returns-clause-runs
returns-clause-runs c = λ more sums runs is.
    let full : 8 ≤ length c.args.self.now.taken.shown.items = omega (arith, c.requires.full) in
    HasRuns-count c.args.self.now.rule runs more c.args.self.now _ c.args.summary.now c.requires.others full
    refl (ap (λ shown. shown.items) c.skip.ensures.shown) c.skip.ensures.more c.min-self.ensures c.max-self.ensures is sums
