-- The conversations, one for each link.
use Rattle.std.specs.Prelude.{ℕ, List, ◌++◌, codes, decimal, Option, string_bytes}
use Rattle.std.specs.declared.string.String.{String}
use Rattle.std.specs.declared.alloc.Global.{Global}
use Rattle.tox_draw.specs.declared.pages.row.StreamFacts.{StreamFacts}
use Rattle.tox_draw.specs.pages.Escaping.{html}
use Rattle.tox_draw.specs.pages.Figures.{figure}
use Rattle.tox_draw.specs.pages.StreamRows.{stream_row}

-- the start of a conversation of this number
unfoldable pub section_tag : ℕ → List ℕ
section_tag number =
    codes "<section aria-labelledby=\"link-"
    ++ (decimal number ++ (codes "\">\n<h3 id=\"link-" ++ (decimal number ++ codes "\">")))

-- its title: the link, and who ended it
unfoldable pub section_title : List ℕ → ℕ → List ℕ → List ℕ
section_title proxy link words =
    html proxy
    ++ (codes " " ++ (decimal link ++ (codes ": " ++ (words ++ codes "</h3>\n"))))

-- the start of its table, which scrolls where it is narrow
unfoldable pub section_scroll : ℕ → List ℕ
section_scroll number =
    codes "<div class=\"wide\" role=\"region\" tabindex=\"0\" aria-labelledby=\"link-"
    ++ (decimal number ++ codes "\">\n")

-- the head of its table
unfoldable pub stream_table_head : List ℕ
stream_table_head =
    codes "<table>\n<thead>\n<tr><th scope=\"col\">Stream</th><th class=\"number\" scope=\"col\">Sent, B</th><th class=\"number\" scope=\"col\">Passed, B</th><th scope=\"col\">Applied toxics</th><th scope=\"col\">Skipped toxics</th><th scope=\"col\">Ending, ms</th><th scope=\"col\">Verdict</th><th class=\"number\" scope=\"col\">Late, median, ms</th><th class=\"number\" scope=\"col\">p99</th><th class=\"number\" scope=\"col\">max</th></tr>\n</thead>\n<tbody>\n"

-- behind the rows of its table
unfoldable pub stream_table_end : List ℕ
stream_table_end = codes "</tbody>\n</table>\n</div>\n"

-- a conversation of this number up to the rows of its streams: the link of a stream, and who ended it
unfoldable pub section_front : List ℕ → ℕ → StreamFacts → List ℕ
section_front words number facts =
    section_tag number
    ++ (section_title (string_bytes facts.proxy) facts.link words
    ++ (section_scroll number ++ stream_table_head))

-- the row of a stream, and its picture
unfoldable pub one_body : ℕ → StreamFacts → Option (String Global) → List ℕ
one_body number facts picture =
    stream_row facts ++ (stream_table_end ++ figure facts number picture)

-- the rows of both streams, and their pictures
unfoldable pub both_body : ℕ → StreamFacts → StreamFacts → Option (String Global)
    → Option (String Global) → List ℕ
both_body number up down upstream downstream =
    stream_row up
    ++ (stream_row down
    ++ (stream_table_end ++ (figure up number upstream ++ figure down number downstream)))

-- the conversation of a link of which one stream has a log; who ended it is reported in these words
unfoldable pub one_section : List ℕ → ℕ → StreamFacts → Option (String Global) → List ℕ
one_section words number facts picture =
    section_front words number facts ++ (one_body number facts picture ++ codes "</section>\n")

-- the conversation of a link of which both streams have a log
unfoldable pub both_section : List ℕ → ℕ → StreamFacts → StreamFacts → Option (String Global)
    → Option (String Global) → List ℕ
both_section words number up down upstream downstream =
    section_front words number up
    ++ (both_body number up down upstream downstream ++ codes "</section>\n")
