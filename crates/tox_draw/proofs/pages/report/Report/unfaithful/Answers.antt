-- They are among the logs that were judged.
use Rattle.std.proofs.Common.{◌∙◌, ap, count_by}
use Rattle.tox_draw.specs.pages.Kinds.{has}
use Rattle.tox_draw.specs.declared.pages.kind.Kind.TheVariants as kind
use Rattle.tox_draw.proofs.pages.report.Report.unfaithful.Goals as goal

pub returns : goal.returns
returns c = λ refusals rows kept. c.count_of.ensures ∙ ap (count_by (has kind.Unfaithful)) (c.deref.ensures.value ∙ kept.judged)
