-- The two files that mean what a command line says.
use Rattle.std.specs.Prelude.{ℕ, ◌==◌, ◌&&◌, ◌||◌, Bool, List, [], ◌++◌, codes, decimal, flat_map, if◌then◌else◌}
use Rattle.std.specs.List.{zip}
use Rattle.std.specs.Str.{bytes_eq}
use Rattle.tox_time.specs.declared.streams.stream.Stream.{Stream}
use Rattle.tox_time.specs.declared.streams.stream.Stream.TheVariants.{Upstream, Downstream}
use Rattle.tox_time.specs.streams.StreamName.{stream_name}
use Rattle.tox_defs.specs.Toxic.{attributes_of, name_of, values_of}
use Rattle.tox_text.specs.Json.{json_text}
use Rattle.tox_inline.specs.declared.toxics.NumberedToxic.{NumberedToxic}

-- a populate file of one proxy, between these two addresses
abbrev pub populate_text : List ℕ → List ℕ → List ℕ
populate_text listen upstream =
    codes "[{\"name\": \"default\", \"listen\": " ++ (json_text listen
    ++ (codes ", \"upstream\": " ++ (json_text upstream ++ codes "}]\n")))

-- the beginning of the names of a stream's toxics
abbrev pub short_name : Stream → List ℕ
short_name Upstream = codes "up_"
short_name Downstream = codes "down_"

-- the table of a toxic, up to its attributes
abbrev pub toxic_head : NumberedToxic → List ℕ
toxic_head toxic =
    codes "\n[[rule.toxic]]\nname = \"" ++ short_name toxic.stream ++ decimal toxic.number
    ++ codes "\"\ntype = \"" ++ name_of toxic.entry.toxic ++ codes "\"\nstream = \""
    ++ stream_name toxic.stream ++ codes "\"\ntoxicity = " ++ decimal toxic.entry.toxicity
    ++ codes "\n\n[rule.toxic.attributes]\n"

-- whether an attribute says when a toxic begins
abbrev pub says_begin : List ℕ → Bool
says_begin name = bytes_eq name (codes "from") || bytes_eq name (codes "after")

-- an attribute and its value; one that says when a toxic begins is left out where it is 0
abbrev pub attribute_line : List ℕ × ℕ → List ℕ
attribute_line pair =
    if says_begin pair.0 && pair.1 == 0 then []
    else (pair.0 ++ codes " = " ++ decimal pair.1 ++ codes "\n")

-- the table of a toxic
abbrev pub toxic_text : NumberedToxic → List ℕ
toxic_text toxic =
    toxic_head toxic
    ++ flat_map attribute_line (zip (attributes_of toxic.entry.toxic) (values_of toxic.entry.toxic))

-- what stands before the toxics: each connection of the proxy meets them
abbrev pub script_head : List ℕ
script_head = codes "version = 2\nlanes = 32\n\n[[rule]]\nproxy = \"default\"\nfirst = 1\n"

-- a script with these toxics for each connection
abbrev pub script_text : List NumberedToxic → List ℕ
script_text toxics = script_head ++ flat_map toxic_text toxics
