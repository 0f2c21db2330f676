-- How many connections met a rule, and how often each of its toxics is applied.
use Rattle.std.specs.Prelude.{ℕ, ◌+◌, ◌==◌, ◌&&◌, Bool, false, List, [], ◌∷◌, ◌++◌, codes, count_by, decimal, flat_map, Option, None, Some, slice_index_or}
use Rattle.std.specs.Prelude.{if◌then◌else◌}
use Rattle.tox_time.specs.declared.streams.stream.Stream.{Stream}
use Rattle.tox_time.specs.declared.streams.stream.Stream.TheVariants.{Upstream, Downstream}
use Rattle.tox_script.specs.Rule.{Rules}
use Rattle.tox_script.specs.chains.Chains.{on}
use Rattle.tox_script.specs.declared.chains.Chains.{Chains}
use Rattle.tox_script.specs.index.Numbered.{covering_number}
use Rattle.tox_text.specs.Names.{visible_name}
use Rattle.tox_check.specs.forecast.Applied.{flag_at, flags_for}
use Rattle.tox_check.specs.forecast.Objects.{total_object}
use Rattle.tox_check.specs.declared.forecast.totals.places.Places.{Places}

-- how many connections met a rule, and by stream and place how many of them meet a toxic
pub record Totals : Type 0 where
  pub met : ℕ
  pub applied : Stream → ℕ → ℕ

-- whether it is the rule of a number that was met
abbrev pub is_rule : ℕ → Option ℕ → Bool
is_rule rule None = false
is_rule rule (Some met) = met == rule

-- whether a connection of a proxy meets the rule of a number
abbrev pub meets : List ℕ → Rules → ℕ → ℕ → Bool
meets proxy script rule conn = is_rule rule (covering_number proxy conn script)

-- the totals of a rule over some connections of a proxy
abbrev pub totals_of : List ℕ → Rules → ℕ → ℕ → List ℕ → Totals
totals_of proxy script seed rule conns = record {
  met = count_by (meets proxy script rule) conns;
  applied = λ stream place.
      count_by (λ conn. meets proxy script rule conn && flag_at place (flags_for proxy script seed conn stream)) conns;
}

-- a toxic of a rule: its number from 1, its stream, and its place there
pub record PlacedToxic : Type 0 where
  pub number : ℕ
  pub stream : Stream
  pub place : ℕ

-- the next place of a stream
abbrev pub place_on : Stream → Places → ℕ
place_on Upstream at = at.upstream
place_on Downstream at = at.downstream

-- the places behind a toxic on a stream
abbrev pub places_after : Stream → Places → Places
places_after Upstream at =
    record { number = at.number + 1; upstream = at.upstream + 1; downstream = at.downstream }
places_after Downstream at =
    record { number = at.number + 1; upstream = at.upstream; downstream = at.downstream + 1 }

-- toxics on these streams, of which the first has these places
abbrev pub placed_from : Places → List Stream → List PlacedToxic
placed_from at [] = []
placed_from at (stream ∷ order) =
    record { number = at.number; stream = stream; place = place_on stream at }
    ∷ placed_from (places_after stream at) order

-- the line of a toxic, by the numbers of its rule and of itself, from 1
abbrev pub total_line : ℕ → ℕ → ℕ → ℕ → List ℕ → List ℕ
total_line rule number applied met name =
    codes "rule " ++ decimal rule ++ codes " toxic " ++ decimal number ++ codes " applied "
    ++ decimal applied ++ codes " of " ++ decimal met ++ codes " " ++ visible_name name ++ codes "\n"

-- the line of a toxic, in words or as an object of JSON
abbrev pub total_in : Bool → List ℕ → ℕ → ℕ → ℕ → ℕ → List ℕ → List ℕ
total_in json proxy rule number applied met name =
    if json
    then total_object proxy rule number applied met name
    else total_line rule number applied met name

-- the line of a placed toxic
abbrev pub toxic_total : Bool → List ℕ → ℕ → Totals → Chains → PlacedToxic → List ℕ
toxic_total json proxy rule totals chains placed =
    total_in json proxy (rule + 1) placed.number (totals.applied placed.stream placed.place) totals.met
    (slice_index_or (on placed.stream chains).names placed.place [])

-- the lines of toxics on these streams, of which the first has these places
abbrev pub toxic_totals : Bool → List ℕ → ℕ → Totals → Chains → Places → List Stream → List ℕ
toxic_totals json proxy rule totals chains at order =
    flat_map (toxic_total json proxy rule totals chains) (placed_from at order)

-- the lines of a rule's toxics in the file's order, if the rule was met
abbrev pub rule_totals : Bool → List ℕ → ℕ → Totals → Chains → List Stream → List ℕ
rule_totals json proxy rule totals chains order =
    if totals.met == 0
    then []
    else toxic_totals json proxy rule totals chains (record { number = 1; upstream = 0; downstream = 0 }) order
