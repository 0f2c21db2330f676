-- That of the first rows.
use Rattle.std.proofs.Common.{◌≡◌, fold, take}
use Rattle.tox_draw.specs.declared.pages.totals.Seed.TheVariants.{Unknown}
use Rattle.tox_draw.specs.pages.Totals.{seed_with}
use Rattle.tox_draw.proofs.pages.totals.seed_of.Given as goal

abbrev pub invariant-loop-row : goal.invariant-loop-row
invariant-loop-row l = l.seed ≡ fold (λ seed row. seed_with seed row.facts.seed) Unknown (take l.row-index l.rows)
