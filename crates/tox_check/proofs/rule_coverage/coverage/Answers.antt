-- What the tree's runs of the range come to.
use Rattle.std.proofs.Common.{[], ap, subst, sym, ◌∙◌}
use Rattle.tox_check.specs.Coverage.{within}
use Rattle.tox_check.specs.Lines.{met_warnings}
use Rattle.tox_check.specs.RuleRuns.{HasRuns}
use Rattle.tox_check.specs.RuleWarnings.{runs_by}
use Rattle.tox_check.specs.Tree.{runs_in}
use Rattle.tox_check.proofs.rule_coverage.coverage.Goals as goal

pub returns : goal.returns
returns c =
    let range = c.args.range in
    let runs = within range.first range.last (runs_in c.in-Some.tree) in
    let appended : HasRuns range.rule runs c.append_to.new.found = c.append_to.ensures.runs [] c.new-found.ensures.runs in
    c.warning_of-2.ensures runs (subst (λ rule. HasRuns rule runs c.append_to.new.found) (sym c.append_to.ensures.rule) appended)
    ∙ ap (λ rule. met_warnings rule runs) c.append_to.ensures.rule
    ∙ ap (λ tree. met_warnings range.rule (within range.first range.last (runs_by tree))) (sym c.in-Some.is)
