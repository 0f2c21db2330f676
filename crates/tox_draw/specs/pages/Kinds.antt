-- What the totals count.
use Rattle.std.specs.Prelude.{Bool, true, false}
use Rattle.tox_draw.specs.declared.pages.kind.Kind.{Kind}
use Rattle.tox_draw.specs.declared.pages.kind.Kind.TheVariants as kind
use Rattle.tox_draw.specs.declared.pages.outcome.Outcome.{Outcome}
use Rattle.tox_draw.specs.declared.pages.outcome.Outcome.TheVariants as outcome
use Rattle.tox_draw.specs.declared.pages.row.Row.{Row}

abbrev pub is_reset : Outcome → Bool
is_reset (outcome.Reset t) = true
is_reset other = false

abbrev pub is_cut : Outcome → Bool
is_cut (outcome.Cut t) = true
is_cut other = false

abbrev pub is_broken : Outcome → Bool
is_broken (outcome.Broken cause) = true
is_broken other = false

-- broken, or without a last line
abbrev pub is_unfinished : Outcome → Bool
is_unfinished (outcome.Broken cause) = true
is_unfinished outcome.Missing = true
is_unfinished other = false

abbrev pub is_unfaithful : Outcome → Bool
is_unfaithful (outcome.Unfaithful line) = true
is_unfaithful other = false

-- whether an outcome is of a kind
abbrev pub outcome_has : Kind → Outcome → Bool
outcome_has kind.Reset outcome = is_reset outcome
outcome_has kind.Cut outcome = is_cut outcome
outcome_has kind.Broken outcome = is_broken outcome
outcome_has kind.Unfinished outcome = is_unfinished outcome
outcome_has kind.Unfaithful outcome = is_unfaithful outcome

-- whether a row is of a kind
abbrev pub has : Kind → Row → Bool
has kind row = outcome_has kind row.facts.outcome
