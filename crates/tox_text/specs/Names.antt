-- Names on one line.
use Rattle.std.specs.Prelude.{ℕ, Bool, List, [], ◌∷◌, ◌++◌, ◌-◌, ◌&&◌, ◌||◌, if◌then◌else◌, codes, flat_map, nat_le}
use Rattle.std.specs.Char.{encode_utf8, is_control}
use Rattle.std.specs.Str.{chars}
use Rattle.hex.specs.Hex.{encode_lower}

-- whether a character orders the text behind it from left to right or from right to left
abbrev pub is_bidi_control : ℕ → Bool
is_bidi_control letter =
    (nat_le 0x202A letter && nat_le letter 0x202E) || (nat_le 0x2066 letter && nat_le letter 0x2069)

-- a byte by its code, behind a sign
abbrev pub escaped : List ℕ → ℕ → List ℕ
escaped sign byte = sign ++ encode_lower (byte ∷ [])

-- a character of a name, as it is printed
abbrev pub visible : ℕ → List ℕ
visible letter =
    if is_control letter then escaped (codes "\\x") letter
    else if is_bidi_control letter then escaped (codes "\\u20") (letter - 0x2000)
    else encode_utf8 letter

-- a name, as it is printed
abbrev pub visible_name : List ℕ → List ℕ
visible_name name = flat_map visible (chars name)
