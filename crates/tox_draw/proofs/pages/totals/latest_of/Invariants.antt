-- That of the first rows.
use Rattle.std.proofs.Common.{◌≡◌, fold, take, None}
use Rattle.tox_draw.specs.pages.Totals.{late_with}
use Rattle.tox_draw.proofs.pages.totals.latest_of.Given as goal

abbrev pub invariant-loop-row : goal.invariant-loop-row
invariant-loop-row l = l.latest ≡ fold (λ latest row. late_with latest row.facts) None (take l.row-index l.rows)
