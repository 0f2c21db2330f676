-- The pictures of a conversation.
use Rattle.std.specs.Prelude.{ℕ, List, ◌++◌, codes, decimal, Option, Some, None, string_bytes}
use Rattle.std.specs.declared.string.String.{String}
use Rattle.std.specs.declared.alloc.Global.{Global}
use Rattle.tox_time.specs.streams.StreamName.{stream_name}
use Rattle.tox_draw.specs.declared.pages.row.StreamFacts.{StreamFacts}
use Rattle.tox_draw.specs.pages.Escaping.{html}
use Rattle.tox_draw.specs.Settings.{place_end}

-- the start of a figure with this end of its ids, up to its caption
unfoldable pub figure_head : List ℕ → List ℕ
figure_head end =
    codes "<figure id=\"log"
    ++ (end ++ (codes "\">\n<figcaption id=\"name" ++ (end ++ codes "\">")))

-- which stream a picture shows
unfoldable pub caption_of : List ℕ → ℕ → List ℕ → List ℕ
caption_of proxy link stream =
    html proxy
    ++ (codes " " ++ (decimal link ++ (codes " " ++ (stream ++ codes "</figcaption>\n"))))

-- a picture in a part of the page that scrolls
unfoldable pub scrolled : List ℕ → List ℕ → List ℕ
scrolled end picture =
    codes "<div class=\"wide\" role=\"group\" tabindex=\"0\" aria-labelledby=\"name"
    ++ (end ++ (codes "\">\n" ++ (picture ++ codes "</div>\n")))

-- the picture, or what stands for it
abbrev pub drawn : List ℕ → Option (String Global) → List ℕ
drawn end (Some picture) = scrolled end (string_bytes picture)
drawn end None = codes "<p>The log couldn't be read again.</p>\n"

-- the picture of a log with this end of its ids, with its caption
unfoldable pub placed_figure : StreamFacts → List ℕ → Option (String Global) → List ℕ
placed_figure facts end picture =
    figure_head end
    ++ (caption_of (string_bytes facts.proxy) facts.link (stream_name facts.stream)
    ++ (drawn end picture ++ codes "</figure>\n"))

-- the picture of a log, in the conversation of this number
abbrev pub figure : StreamFacts → ℕ → Option (String Global) → List ℕ
figure facts number picture =
    placed_figure facts (place_end number (stream_name facts.stream)) picture
