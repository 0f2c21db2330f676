-- The links that logs are of.
use Rattle.std.specs.Prelude.{ℕ, ◌==◌, ◌&&◌, Bool, List, map, string_bytes}
use Rattle.std.specs.Set.{distinct_count}
use Rattle.std.specs.Str.{bytes_eq}
use Rattle.tox_draw.specs.declared.pages.row.Row.{Row}

-- a link: its proxy's name and its number
abbrev pub Link : Type 0
Link = List ℕ × ℕ

abbrev pub same_link : Link → Link → Bool
same_link a b = bytes_eq a.0 b.0 && a.1 == b.1

-- the link of a log
abbrev pub link_of : Row → Link
link_of row = (string_bytes row.facts.proxy, row.facts.link)

-- how many different links some rows are of
abbrev pub link_count : List Row → ℕ
link_count rows = distinct_count same_link (map link_of rows)
