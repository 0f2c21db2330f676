-- The judged logs of links.
use Rattle.std.specs.Prelude.{ℕ, ◌==◌, ◌&&◌, ◌||◌, Bool, true, false, not, List, [], ◌∷◌, ◌++◌, filter, Option, None, string_bytes, if◌then◌else◌}
use Rattle.std.specs.Str.{bytes_eq}
use Rattle.tox_time.specs.declared.streams.stream.Stream.{Stream}
use Rattle.tox_time.specs.declared.streams.stream.Stream.TheVariants.{Upstream, Downstream}
use Rattle.tox_draw.specs.declared.pages.kind.Kind.TheVariants as kind
use Rattle.tox_draw.specs.declared.pages.link_logs.LinkLogs.{LinkLogs}
use Rattle.tox_draw.specs.declared.pages.link_logs.LinkLogs.TheVariants.{One, Both}
use Rattle.tox_draw.specs.declared.pages.row.Row.{Row}
use Rattle.tox_draw.specs.declared.pages.row.StreamFacts.{StreamFacts}
use Rattle.tox_draw.specs.pages.EndWords.{end_words, ended_by}
use Rattle.tox_draw.specs.pages.Kinds.{has}
use Rattle.tox_draw.specs.pages.Totals.{late_with}

abbrev pub are_opposite : Stream → Stream → Bool
are_opposite Upstream Downstream = true
are_opposite Downstream Upstream = true
are_opposite Upstream Upstream = false
are_opposite Downstream Downstream = false

-- two logs are of one link, and of different streams
abbrev pub makes_link : Row → Row → Bool
makes_link first second =
    (first.facts.link == second.facts.link)
    && (are_opposite first.facts.stream second.facts.stream
    && bytes_eq (string_bytes first.facts.proxy) (string_bytes second.facts.proxy))

-- their link: the client's stream, and the server's
abbrev pub joined_by : Stream → Row → Row → LinkLogs
joined_by Upstream first second = Both first second
joined_by Downstream first second = Both second first

abbrev pub joined : Row → Row → LinkLogs
joined first second = joined_by first.facts.stream first second

-- the links of some logs in order: two neighbours that make a link are one, and each other log is a link alone
abbrev pub link_logs_of : List Row → List LinkLogs
link_logs_of [] = []
link_logs_of (row ∷ []) = One row ∷ []
link_logs_of (first ∷ (second ∷ rows)) =
    if makes_link first second then joined first second ∷ link_logs_of rows
    else One first ∷ link_logs_of (second ∷ rows)

-- whether a link is marked: a log of it isn't faithful
abbrev pub marks_link : LinkLogs → Bool
marks_link (One row) = has kind.Unfaithful row
marks_link (Both up down) = has kind.Unfaithful up || has kind.Unfaithful down

-- links in the order of the page: those that are marked, and then the others
abbrev pub ordered_links : List LinkLogs → List LinkLogs
ordered_links links = filter marks_link links ++ filter (λ link. not (marks_link link)) links

-- the links of some logs, in the order of the page
abbrev pub page_links : List Row → List LinkLogs
page_links rows = ordered_links (link_logs_of rows)

-- the log that tells the link
abbrev pub first_row : LinkLogs → Row
first_row (One row) = row
first_row (Both up down) = up

-- who ended the link
abbrev pub link_words : LinkLogs → List ℕ
link_words (One row) = end_words row.facts.end row.facts.stream false
link_words (Both up down) = ended_by up.facts.end down.facts.end

-- of two logs the facts of the one with the worse verdict: unfaithful, or else unfinished
abbrev pub worse_facts : Row → Row → StreamFacts
worse_facts up down =
    if has kind.Unfaithful up then up.facts else
    if has kind.Unfaithful down then down.facts else
    if has kind.Unfinished up then up.facts else down.facts

abbrev pub worst_facts : LinkLogs → StreamFacts
worst_facts (One row) = row.facts
worst_facts (Both up down) = worse_facts up down

-- the greatest lateness of a link's streams
abbrev pub link_latest : LinkLogs → Option ℕ
link_latest (One row) = late_with None row.facts
link_latest (Both up down) = late_with (late_with None up.facts) down.facts
