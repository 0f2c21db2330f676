-- One row more.
use Rattle.std.proofs.Common.{◌∙◌, ap, fold, ℕ, Option, None}
use Rattle.std.proofs.lemmas.List.{take_all}
use Rattle.tox_draw.specs.declared.pages.row.Row.{Row}
use Rattle.tox_draw.specs.pages.Totals.{late_with}
use Rattle.tox_draw.proofs.pages.totals.latest_of.Goals as goal

pub returns : goal.returns
returns c =
    c.loop-row.invariant ∙ ap (fold (λ (before : Option ℕ) (row : Row). late_with before row.facts) None)
    (take_all c.loop-row.row-index c.args.rows.now c.loop-row-test.false)
