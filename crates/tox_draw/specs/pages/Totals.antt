-- What the logs of a run come to.
use Rattle.std.specs.Prelude.{ℕ, ◌==◌, List, ◌++◌, codes, count_by, decimal, fold, length, max, Option, Some, None, unwrap_or, if◌then◌else◌}
use Rattle.tox_log.specs.declared.lateness.Percentiles.{Percentiles}
use Rattle.tox_draw.specs.declared.pages.kind.Kind.TheVariants as kind
use Rattle.tox_draw.specs.declared.pages.outcome.Outcome.{Outcome}
use Rattle.tox_draw.specs.declared.pages.outcome.Outcome.TheVariants.{Unfaithful}
use Rattle.tox_draw.specs.declared.pages.row.Row.{Row}
use Rattle.tox_draw.specs.declared.pages.row.StreamFacts.{StreamFacts}
use Rattle.tox_draw.specs.declared.pages.totals.Seed.{Seed}
use Rattle.tox_draw.specs.declared.pages.totals.Seed.TheVariants.{Unknown, One, Several}
use Rattle.tox_draw.specs.pages.Kinds.{has}
use Rattle.tox_draw.specs.pages.Millis.{millis}

-- the seed of some logs, and of one more
abbrev pub seed_with : Seed → ℕ → Seed
seed_with Unknown other = One other
seed_with (One one) other = if one == other then One one else Several
seed_with Several other = Several

-- the seed of the rows
abbrev pub seed_of : List Row → Seed
seed_of rows = fold (λ seed row. seed_with seed row.facts.seed) Unknown rows

-- the greatest lateness of some logs, and of one more
abbrev pub greater : Option ℕ → Option Percentiles → Option ℕ
greater latest (Some late) = Some (max late.max (unwrap_or latest 0))
greater latest None = latest

abbrev pub latest_with : Option ℕ → Outcome → Option Percentiles → Option ℕ
latest_with latest (Unfaithful line) late = latest
latest_with latest outcome late = greater latest late

abbrev pub late_with : Option ℕ → StreamFacts → Option ℕ
late_with latest facts = latest_with latest facts.outcome facts.late

-- the greatest lateness of the rows
abbrev pub latest_of : List Row → Option ℕ
latest_of rows = fold (λ latest row. late_with latest row.facts) None rows

-- a total that is a number
unfoldable pub number_entry : List ℕ → ℕ → List ℕ
number_entry name number =
    codes "<div><dt>" ++ (name ++ (codes "</dt><dd>" ++ (decimal number ++ codes "</dd></div>\n")))

-- a total that is a word
unfoldable pub word_entry : List ℕ → List ℕ → List ℕ
word_entry name word =
    codes "<div><dt>" ++ (name ++ (codes "</dt><dd>" ++ (word ++ codes "</dd></div>\n")))

abbrev pub seed_entry : Seed → List ℕ
seed_entry Unknown = word_entry (codes "Seed") (codes "unknown")
seed_entry (One seed) = number_entry (codes "Seed") seed
seed_entry Several = word_entry (codes "Seed") (codes "several")

-- the greatest lateness
unfoldable pub worst_entry : ℕ → List ℕ
worst_entry latest =
    codes "<div><dt>Worst lateness</dt><dd>" ++ (millis latest ++ codes " ms</dd></div>\n")

abbrev pub latest_entry : Option ℕ → List ℕ
latest_entry (Some latest) = worst_entry latest
latest_entry None = word_entry (codes "Worst lateness") (codes "none timed")

-- how many streams ended otherwise than closed
unfoldable pub outcome_entries : List Row → List ℕ
outcome_entries rows =
    number_entry (codes "Reset") (count_by (has kind.Reset) rows)
    ++ (number_entry (codes "Cut") (count_by (has kind.Cut) rows)
    ++ (number_entry (codes "Unfinished") (count_by (has kind.Unfinished) rows)
    ++ (number_entry (codes "Broken of these") (count_by (has kind.Broken) rows)
    ++ number_entry (codes "Unfaithful") (count_by (has kind.Unfaithful) rows))))

-- what so many logs that can't be judged and the rows of the others, which are of so many links, come to
unfoldable pub row_totals_text : ℕ → List Row → ℕ → List ℕ
row_totals_text refused rows links =
    number_entry (codes "Links") links
    ++ (number_entry (codes "Streams") (length rows)
    ++ (outcome_entries rows
    ++ (number_entry (codes "Not judged") refused
    ++ (seed_entry (seed_of rows) ++ latest_entry (latest_of rows)))))
