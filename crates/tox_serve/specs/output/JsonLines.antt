-- The lines that serving prints, as objects of JSON.
use Rattle.std.specs.Prelude.{ℕ, List, ◌++◌, codes, decimal, length}
use Rattle.tox_time.specs.declared.streams.stream.Stream.TheVariants.{Upstream, Downstream}
use Rattle.tox_link.specs.declared.book.sides.Link.{Link}
use Rattle.tox_link.specs.book.Links.{total_of}
use Rattle.tox_text.specs.Json.{json_text}
use Rattle.tox_text.specs.JsonLine.{event_text, number_field, text_field}
use Rattle.tox_serve.specs.declared.link.end.LinkEnd.{LinkEnd}
use Rattle.tox_serve.specs.output.ServeLines.{end_word}

-- a proxy of this name listens at this address
abbrev pub listening_object : List ℕ → List ℕ → List ℕ
listening_object name address =
    codes "{\"event\":\"listening\",\"proxy\":" ++ json_text name ++ codes ",\"address\":"
    ++ json_text address ++ codes "}\n"

-- a numbered link of the proxy of this name ended
abbrev pub link_object : List ℕ → LinkEnd → List ℕ
link_object name end =
    event_text (codes "link") ++ (text_field (codes "proxy") name
    ++ (number_field (codes "link") end.number ++ (number_field (codes "up") end.upstream.bytes
    ++ (text_field (codes "up_end") (end_word end.upstream.ending)
    ++ (number_field (codes "down") end.downstream.bytes
    ++ (text_field (codes "down_end") (end_word end.downstream.ending) ++ codes "}\n"))))))

-- the proxy of this name ended: how many links it had, and their bytes on both streams
abbrev pub proxy_total_object : List ℕ → List Link → List ℕ
proxy_total_object name links =
    codes "{\"event\":\"total\",\"proxy\":" ++ json_text name ++ codes ",\"links\":" ++ decimal (length links)
    ++ codes ",\"up\":" ++ decimal (total_of Upstream links)
    ++ codes ",\"down\":" ++ decimal (total_of Downstream links) ++ codes "}\n"
