-- The printed short form of a toxic with its toxicity.
use Rattle.std.specs.Prelude.{ℕ, ◌==◌, ◌&&◌, ◌||◌, Bool, not, List, [], ◌∷◌, ◌++◌, codes, filter, map}
use Rattle.std.specs.Fmt.{decimal}
use Rattle.std.specs.List.{join_with_byte, zip}
use Rattle.std.specs.Str.{bytes_eq}
use Rattle.tox_defs.specs.Toxic.{attributes_of, name_of, values_of}
use Rattle.tox_defs.specs.declared.toxic.Toxic.{Toxic}

-- a key, `=` and a value
abbrev pub printed_pair : List ℕ × ℕ → List ℕ
printed_pair pair = pair.0 ++ codes "=" ++ decimal pair.1

-- whether an attribute is printed only where it isn't 0
abbrev pub is_optional : List ℕ → Bool
is_optional name =
    bytes_eq name (codes "until") || bytes_eq name (codes "from") || bytes_eq name (codes "after")

-- whether a pair is printed
abbrev pub is_shown : List ℕ × ℕ → Bool
is_shown pair = not (is_optional pair.0 && pair.1 == 0)

-- the pairs of a toxic's attributes, in order, and of its toxicity
abbrev pub printed_pairs : Toxic → ℕ → List (List ℕ)
printed_pairs toxic toxicity =
    map printed_pair (filter is_shown (zip (attributes_of toxic) (values_of toxic)))
    ++ printed_pair (codes "toxicity", toxicity) ∷ []

-- the type, a colon, and the pairs separated by commas
abbrev pub printed_short : Toxic → ℕ → List ℕ
printed_short toxic toxicity =
    name_of toxic ++ codes ":" ++ join_with_byte 44 (printed_pairs toxic toxicity)
