-- Tallies of all rules over the first connections of a proxy.
use Rattle.std.specs.Prelude.{◌≡◌, ℕ, ◌<◌, List, length, slice_index_or}
use Rattle.tox_script.specs.Rule.{Rules}
use Rattle.tox_check.specs.forecast.Counted.{numbers_from}
use Rattle.tox_check.specs.forecast.Tally.{totals_in}
use Rattle.tox_check.specs.forecast.Totals.{totals_of}
use Rattle.tox_check.specs.declared.forecast.tally.Tally.{Tally}

-- each tally has the totals of its rule over so many connections
abbrev pub IsTallied : List ℕ → Rules → ℕ → ℕ → List Tally → Type 0
IsTallied proxy script seed links tallies =
    (rule : ℕ) (d : Tally) → rule < length tallies
    → totals_in (slice_index_or tallies rule d) ≡ totals_of proxy script seed rule (numbers_from 1 links)
