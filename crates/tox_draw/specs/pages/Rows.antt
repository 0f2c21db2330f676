-- The rows of the list.
use Rattle.std.specs.Prelude.{ℕ, Bool, List, ◌++◌, codes, decimal, Option, Some, None, string_bytes, true, false}
use Rattle.tox_time.specs.declared.streams.stream.Stream.{Stream}
use Rattle.tox_time.specs.declared.streams.stream.Stream.TheVariants.{Upstream, Downstream}
use Rattle.tox_time.specs.streams.StreamName.{stream_name}
use Rattle.tox_draw.specs.declared.pages.link_logs.LinkLogs.{LinkLogs}
use Rattle.tox_draw.specs.declared.pages.link_logs.LinkLogs.TheVariants.{One, Both}
use Rattle.tox_draw.specs.declared.pages.outcome.Outcome.{Outcome}
use Rattle.tox_draw.specs.declared.pages.outcome.Outcome.TheVariants.{Unfaithful}
use Rattle.tox_draw.specs.declared.pages.row.Refusal.{Refusal}
use Rattle.tox_draw.specs.declared.pages.row.StreamFacts.{StreamFacts}
use Rattle.tox_draw.specs.pages.Cells.{millis_cell, number_cell, word_cell}
use Rattle.tox_draw.specs.pages.Escaping.{html}
use Rattle.tox_draw.specs.pages.LinkLogs.{first_row, link_latest, link_words, marks_link, worst_facts}
use Rattle.tox_draw.specs.pages.Outcomes.{outcome_verdict}
use Rattle.tox_draw.specs.pages.StreamRows.{count_cells, toxics_cell}

-- the row of a log that can't be judged
unfoldable pub fault_row : List ℕ → List ℕ → List ℕ
fault_row name fault =
    codes "<tr class=\"marked\"><th scope=\"row\" colspan=\"3\">"
    ++ (html name ++ (codes "</th><td class=\"verdict\" colspan=\"8\">not judged: "
    ++ (html fault ++ codes "</td></tr>\n")))

abbrev pub refusal_row : Refusal → List ℕ
refusal_row refusal = fault_row (string_bytes refusal.name) (string_bytes refusal.fault)

-- the tag of a row
abbrev pub mark_tag : Bool → List ℕ
mark_tag true = codes "<tr class=\"marked\">"
mark_tag false = codes "<tr>"

-- the head of a row: the proxy's name
unfoldable pub bare_head : List ℕ → List ℕ
bare_head proxy = codes "<th scope=\"row\">" ++ (html proxy ++ codes "</th>")

-- the name leads to the conversation of this number
unfoldable pub linked_head : List ℕ → ℕ → List ℕ
linked_head proxy number =
    codes "<th scope=\"row\"><a href=\"#link-"
    ++ (decimal number ++ (codes "\">" ++ (html proxy ++ codes "</a></th>")))

abbrev pub row_head : List ℕ → ℕ → Bool → List ℕ
row_head proxy number true = linked_head proxy number
row_head proxy number false = bare_head proxy

-- a row up to who ended the link
unfoldable pub head_cells : LinkLogs → ℕ → Bool → List ℕ
head_cells link number linked =
    mark_tag (marks_link link)
    ++ (row_head (string_bytes (first_row link).facts.proxy) number linked
    ++ (number_cell (first_row link).facts.link ++ word_cell (link_words link)))

-- how many bytes a stream's source gave and how many passed, and the toxics that it met
unfoldable pub stream_cells : StreamFacts → List ℕ
stream_cells facts =
    count_cells facts.outcome facts.heard facts.said ++ toxics_cell (string_bytes facts.toxics)

-- the cells of a stream that has no log
unfoldable pub no_cells : List ℕ
no_cells = codes "<td></td><td></td><td></td>"

-- the cells of a stream, and empty ones for the other
abbrev pub one_cells : Stream → StreamFacts → List ℕ
one_cells Upstream facts = stream_cells facts ++ no_cells
one_cells Downstream facts = no_cells ++ stream_cells facts

abbrev pub opposite_cells : StreamFacts → StreamFacts → List ℕ
opposite_cells up down = stream_cells up ++ stream_cells down

-- the cells of both streams
abbrev pub fact_cells : LinkLogs → List ℕ
fact_cells (One row) = one_cells row.facts.stream row.facts
fact_cells (Both up down) = opposite_cells up.facts down.facts

-- the first line up to which the log of a stream isn't faithful
unfoldable pub unfaithful_words : List ℕ → ℕ → List ℕ
unfaithful_words stream line =
    codes "<td class=\"verdict\">unfaithful, "
    ++ (stream ++ (codes " line " ++ (decimal line ++ codes "</td>")))

abbrev pub verdict_words : Outcome → Stream → List ℕ
verdict_words (Unfaithful line) side = unfaithful_words (stream_name side) line
verdict_words outcome side = word_cell (outcome_verdict outcome)

abbrev pub latest_cell : Option ℕ → List ℕ
latest_cell (Some latest) = millis_cell (codes "") latest
latest_cell None = codes "<td></td>"

-- the rest of a row: the worse verdict, and the greatest lateness
unfoldable pub outcome_cells : LinkLogs → List ℕ
outcome_cells link =
    verdict_words (worst_facts link).outcome (worst_facts link).stream
    ++ (latest_cell (link_latest link) ++ codes "</tr>\n")

-- the row of a link. A linked one leads to the conversation of this number
unfoldable pub link_row : LinkLogs → ℕ → Bool → List ℕ
link_row link number linked =
    head_cells link number linked ++ (fact_cells link ++ outcome_cells link)
