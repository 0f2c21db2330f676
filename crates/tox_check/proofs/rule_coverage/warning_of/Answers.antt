-- Some runs are the rule's own, and others aren't.
use Rattle.std.proofs.lemmas.Bool.{iff_false}
use Rattle.tox_check.proofs.RuleRunsWarned.{HasRuns-partly}
use Rattle.tox_check.proofs.rule_coverage.warning_of.Goals as goal

pub returns-else-is_empty-2 : goal.returns-else-is_empty-2
returns-else-is_empty-2 c = λ runs is.
    HasRuns-partly c.args.found.rule runs c.args.found is (iff_false c.is_empty.ensures c.if-is_empty.false)
    (iff_false c.is_empty-else-is_empty.ensures c.if-is_empty-2.false)
