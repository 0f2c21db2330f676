-- The forecast text: a line for each stream of each connection of a proxy, and then a line for each toxic of each rule
-- that was met.
use Rattle.std.specs.Prelude.{ℕ, ◌&&◌, Bool, true, false, List, [], ◌++◌, codes, decimal, flat_map, length, Option, None, Some, if◌then◌else◌}
use Rattle.std.specs.Borrow.{Bor}
use Rattle.std.specs.List.{enumerate_from}
use Rattle.tox_time.specs.declared.streams.stream.Stream.{Stream}
use Rattle.tox_time.specs.declared.streams.stream.Stream.TheVariants.{Upstream, Downstream}
use Rattle.tox_time.specs.streams.StreamName.{same_stream, stream_name}
use Rattle.tox_script.specs.Covering.{toxics_for}
use Rattle.tox_script.specs.Rule.{Rules}
use Rattle.tox_script.specs.index.Numbered.{chains_numbered, covering_number, order_numbered}
use Rattle.tox_check.specs.forecast.Applied.{flags_for, meets_name}
use Rattle.tox_check.specs.forecast.Counted.{numbers_from}
use Rattle.tox_check.specs.forecast.Objects.{rule_number, stream_object}
use Rattle.tox_check.specs.forecast.Totals.{rule_totals, totals_of}
use Rattle.tox_check.specs.declared.forecast.question.Question.{Question}

-- the place of a toxic, where it is applied
abbrev pub place_text : ℕ → Bool → List ℕ
place_text place true = codes " " ++ decimal place
place_text place false = []

-- the places of the applied toxics
abbrev pub places_text : List Bool → List ℕ
places_text flags = flat_map (λ placed. place_text placed.0 placed.1) (enumerate_from 0 flags)

-- the line of a connection's stream, which meets a rule, up to the places
abbrev pub line_head : ℕ → Stream → Option ℕ → List ℕ
line_head conn stream rule =
    decimal conn ++ codes " " ++ stream_name stream ++ codes " rule " ++ decimal (rule_number rule)
    ++ codes " applied"

-- the line of a connection's stream, which meets a rule
abbrev pub stream_line : ℕ → Stream → Option ℕ → List Bool → List ℕ
stream_line conn stream rule flags = line_head conn stream rule ++ (places_text flags ++ codes "\n")

-- the line of a connection's stream, in words or as an object of JSON
abbrev pub line_in : Bool → List ℕ → ℕ → Stream → Option ℕ → List Bool → List ℕ
line_in json proxy conn stream rule flags =
    if json
    then stream_object proxy conn stream rule flags
    else stream_line conn stream rule flags

-- whether lines of a stream are wanted
abbrev pub is_asked : Option Stream → Stream → Bool
is_asked None of = true
is_asked (Some asked) of = same_stream asked of

-- whether an applied toxic has the wanted name, if one is wanted
abbrev pub has_wanted : Option (Bor (List ℕ)) → List (List ℕ) → List Bool → Bool
has_wanted None names flags = true
has_wanted (Some name) names flags = meets_name name.now names flags

-- the line of a connection's stream, if it is wanted
abbrev pub wanted_line : Question → List ℕ → ℕ → Stream → Option ℕ → List (List ℕ) → List Bool → List ℕ
wanted_line question proxy conn stream rule names flags =
    if is_asked question.stream stream && has_wanted question.named names flags
    then line_in question.json proxy conn stream rule flags
    else []

-- what the forecast says of a connection's stream
abbrev pub stream_forecast : Question → List ℕ → Rules → ℕ → Stream → List ℕ
stream_forecast question proxy script conn stream =
    wanted_line question proxy conn stream (covering_number proxy conn script)
    (toxics_for proxy conn stream script).names (flags_for proxy script question.seed conn stream)

-- what it says of a connection
abbrev pub link_text : Question → List ℕ → Rules → ℕ → List ℕ
link_text question proxy script conn =
    stream_forecast question proxy script conn Upstream
    ++ stream_forecast question proxy script conn Downstream

-- the lines of all connections
abbrev pub links_text : Question → List ℕ → Rules → List ℕ
links_text question proxy script =
    flat_map (link_text question proxy script) (numbers_from 1 question.links)

-- the totals of all rules
abbrev pub totals_text : Question → List ℕ → Rules → List ℕ
totals_text question proxy script =
    flat_map (λ rule.
    rule_totals question.json proxy rule
    (totals_of proxy script question.seed rule (numbers_from 1 question.links))
    (chains_numbered (Some rule) script) (order_numbered rule script))
    (numbers_from 0 (length script.rules))

-- the forecast text of a proxy
abbrev pub forecast_text : Question → List ℕ → Rules → List ℕ
forecast_text question proxy script =
    links_text question proxy script ++ totals_text question proxy script
