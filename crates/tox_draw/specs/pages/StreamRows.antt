-- The rows of a conversation, one for each stream.
use Rattle.std.specs.Prelude.{ℕ, Bool, true, false, List, ◌++◌, codes, decimal, Option, Some, None, string_bytes}
use Rattle.tox_time.specs.declared.streams.stream.Stream.{Stream}
use Rattle.tox_time.specs.declared.streams.stream.Stream.TheVariants.{Upstream, Downstream}
use Rattle.tox_log.specs.LastText.{cause_name}
use Rattle.tox_log.specs.declared.lateness.Percentiles.{Percentiles}
use Rattle.tox_draw.specs.declared.pages.outcome.Outcome.{Outcome}
use Rattle.tox_draw.specs.declared.pages.outcome.Outcome.TheVariants.{Open, Closed, SourceReset, Cut, Reset, Broken, Missing, Unfaithful}
use Rattle.tox_draw.specs.declared.pages.row.StreamFacts.{StreamFacts}
use Rattle.tox_draw.specs.pages.Cells.{instant_cell, millis_cell, number_cell, text_cell, word_cell}
use Rattle.tox_draw.specs.pages.Outcomes.{outcome_verdict}

-- how many bytes the source gave, and how many passed
unfoldable pub sum_cells : ℕ → ℕ → List ℕ
sum_cells heard said = number_cell heard ++ number_cell said

abbrev pub count_cells : Outcome → ℕ → ℕ → List ℕ
count_cells (Unfaithful line) heard said = codes "<td></td><td></td>"
count_cells outcome heard said = sum_cells heard said

-- a cell of toxics
abbrev pub toxics_cell : List ℕ → List ℕ
toxics_cell toxics = text_cell (codes "<td class=\"toxics\">") toxics

-- the tag and the head of a row: whose bytes the stream has
abbrev pub stream_head : Stream → List ℕ
stream_head Upstream = codes "<tr><th scope=\"row\">Client's bytes, upstream</th>"
stream_head Downstream = codes "<tr><th scope=\"row\">Server's bytes, downstream</th>"

-- a stream that broke off
unfoldable pub broken_cell : List ℕ → List ℕ
broken_cell cause = codes "<td>broken " ++ (cause ++ codes "</td>")

-- the ending, with its instant
abbrev pub ending_cell : Outcome → List ℕ
ending_cell Open = word_cell (codes "open")
ending_cell (Closed t) = instant_cell (codes "closed ") t
ending_cell (SourceReset t) = instant_cell (codes "source reset, closed ") t
ending_cell (Cut t) = instant_cell (codes "cut, closed ") t
ending_cell (Reset t) = instant_cell (codes "reset ") t
ending_cell (Broken cause) = broken_cell (cause_name cause)
ending_cell Missing = word_cell (codes "no end")
ending_cell (Unfaithful line) = word_cell (codes "")

-- the first line up to which a log isn't faithful
unfoldable pub unfaithful_cell : ℕ → List ℕ
unfaithful_cell line =
    codes "<td class=\"verdict\">unfaithful, line " ++ (decimal line ++ codes "</td>")

abbrev pub verdict_cell : Outcome → List ℕ
verdict_cell (Unfaithful line) = unfaithful_cell line
verdict_cell outcome = word_cell (outcome_verdict outcome)

-- what stands before a percentile that may be too high
abbrev pub exactness : Bool → List ℕ
exactness true = codes ""
exactness false = codes "~"

-- how late the writes were: the median, the 99th percentile and the maximum
unfoldable pub percentile_cells : Percentiles → List ℕ
percentile_cells late =
    millis_cell (exactness late.exact) late.median
    ++ (millis_cell (exactness late.exact) late.p99 ++ millis_cell (codes "") late.max)

abbrev pub timed_cells : Option Percentiles → List ℕ
timed_cells (Some late) = percentile_cells late
timed_cells None = codes "<td></td><td></td><td></td>"

abbrev pub late_cells : Outcome → Option Percentiles → List ℕ
late_cells (Unfaithful line) late = codes "<td></td><td></td><td></td>"
late_cells outcome late = timed_cells late

-- a row up to its toxics, the applied ones and those that were skipped
unfoldable pub given_cells : StreamFacts → List ℕ
given_cells facts =
    stream_head facts.stream
    ++ (count_cells facts.outcome facts.heard facts.said
    ++ (toxics_cell (string_bytes facts.toxics) ++ toxics_cell (string_bytes facts.skipped)))

-- the rest of a row: what came of the stream
unfoldable pub result_cells : StreamFacts → List ℕ
result_cells facts =
    ending_cell facts.outcome
    ++ (verdict_cell facts.outcome ++ (late_cells facts.outcome facts.late ++ codes "</tr>\n"))

-- the row of a stream
unfoldable pub stream_row : StreamFacts → List ℕ
stream_row facts = given_cells facts ++ result_cells facts
