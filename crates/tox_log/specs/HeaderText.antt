-- The header of a log: which stream of which link it is of, and the toxics that the stream meets.
use Rattle.std.specs.Prelude.{ℕ, List, ◌++◌, codes, decimal, flat_map, string_bytes}
use Rattle.std.specs.List.{zip}
use Rattle.std.specs.declared.alloc.Global.{Global}
use Rattle.std.specs.declared.string.String.{String}
use Rattle.tox_time.specs.declared.streams.stream.Stream.{Stream}
use Rattle.tox_time.specs.streams.StreamName.{stream_name}
use Rattle.tox_words.specs.declared.lanes.Lanes.{Lanes}
use Rattle.tox_words.specs.Draw.{lane_count}
use Rattle.tox_defs.specs.chain.Chain.{Toxics}
use Rattle.tox_defs.specs.short.Printed.{printed_short}
use Rattle.tox_defs.specs.declared.chain.Entry.{Entry}
use Rattle.tox_text.specs.Names.{visible_name}

-- the first line
abbrev pub title_line : List ℕ
title_line = codes "toxi log 1\n"

-- the proxy's name, as it is printed, the link's number and the stream
abbrev pub link_line : List ℕ → ℕ → Stream → List ℕ
link_line name number stream =
    codes "link " ++ name ++ codes " " ++ decimal number ++ codes " " ++ stream_name stream ++ codes "\n"

-- what the words are made from, beside the link's number and the stream
abbrev pub seed_line : Lanes → ℕ → List ℕ
seed_line lanes seed =
    codes "lanes " ++ decimal (lane_count lanes) ++ codes " seed " ++ decimal seed ++ codes "\n"

-- a name, as it is printed
abbrev pub printed_name : String Global → List ℕ
printed_name name = visible_name (string_bytes name)

-- a toxic: its short form and its name, as it is printed
abbrev pub toxic_line : Entry → List ℕ → List ℕ
toxic_line entry name =
    codes "toxic " ++ printed_short entry.toxic entry.toxicity ++ codes " " ++ name ++ codes "\n"

-- the toxics of the stream's chain, in order
abbrev pub toxic_lines : List Entry → List (List ℕ) → List ℕ
toxic_lines entries names = flat_map (λ named. toxic_line named.0 named.1) (zip entries names)

-- the first three lines
abbrev pub heading_lines : List ℕ → ℕ → Stream → Lanes → ℕ → List ℕ
heading_lines name number stream lanes seed =
    title_line ++ link_line name number stream ++ seed_line lanes seed

-- the header of a stream with this chain, whose toxics have these names
abbrev pub header_text : List ℕ → ℕ → Stream → ℕ → Toxics → List (List ℕ) → List ℕ
header_text name number stream seed chain names =
    heading_lines name number stream chain.lanes seed ++ toxic_lines chain.entries names
