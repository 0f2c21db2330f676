-- One row more.
use Rattle.std.proofs.Common.{◌∙◌, ap, fold}
use Rattle.std.proofs.lemmas.List.{take_all}
use Rattle.tox_draw.specs.declared.pages.totals.Seed.{Seed}
use Rattle.tox_draw.specs.declared.pages.totals.Seed.TheVariants.{Unknown}
use Rattle.tox_draw.specs.declared.pages.row.Row.{Row}
use Rattle.tox_draw.specs.pages.Totals.{seed_with}
use Rattle.tox_draw.proofs.pages.totals.seed_of.Goals as goal

pub returns : goal.returns
returns c =
    c.loop-row.invariant ∙ ap (fold (λ (before : Seed) (row : Row). seed_with before row.facts.seed) Unknown)
    (take_all c.loop-row.row-index c.args.rows.now c.loop-row-test.false)
