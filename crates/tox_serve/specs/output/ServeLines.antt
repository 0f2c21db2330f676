-- The lines that serving prints.
use Rattle.std.specs.Prelude.{ℕ, List, ◌++◌, length, Option, Some, None, codes, decimal}
use Rattle.tox_time.specs.declared.streams.ending.Ending.{Ending}
use Rattle.tox_time.specs.declared.streams.ending.Ending.TheVariants.{StillOpen, Closed, Reset}
use Rattle.tox_time.specs.declared.streams.stream.Stream.TheVariants.{Upstream, Downstream}
use Rattle.tox_link.specs.declared.book.sides.Link.{Link}
use Rattle.tox_link.specs.book.Links.{total_of}
use Rattle.tox_text.specs.Names.{visible_name}
use Rattle.tox_serve.specs.declared.link.end.SideEnd.{SideEnd}
use Rattle.tox_serve.specs.declared.link.end.LinkEnd.{LinkEnd}

-- a proxy of this name listens at this address
abbrev pub listening_line : List ℕ → List ℕ → List ℕ
listening_line name address = codes "listening " ++ visible_name name ++ codes " " ++ address ++ codes "\n"

-- how a side ended
abbrev pub end_word : Option Ending → List ℕ
end_word (Some StillOpen) = codes "open"
end_word (Some (Closed instant)) = codes "closed"
end_word (Some (Reset instant)) = codes "reset"
end_word None = codes "broken"

-- the bytes of a side, and how it ended
abbrev pub side_text : SideEnd → List ℕ
side_text side = decimal side.bytes ++ codes " " ++ end_word side.ending

-- a numbered link of the proxy of this name ended
abbrev pub link_end_line : List ℕ → LinkEnd → List ℕ
link_end_line name end =
    codes "link " ++ visible_name name ++ codes " " ++ decimal end.number ++ codes " up " ++ side_text end.upstream ++ codes " down "
    ++ side_text end.downstream ++ codes "\n"

-- the proxy of this name ended: how many links it had, and their bytes on both streams
abbrev pub proxy_total_line : List ℕ → List Link → List ℕ
proxy_total_line name links =
    codes "total " ++ visible_name name ++ codes " " ++ decimal (length links) ++ codes " up " ++ decimal (total_of Upstream links) ++ codes " down "
    ++ decimal (total_of Downstream links) ++ codes "\n"
