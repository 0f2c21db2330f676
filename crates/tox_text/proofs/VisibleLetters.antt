-- The characters of a name, printed one after the other.
use Rattle.std.proofs.Common.{◌≡◌, ℕ, Bool, true, ◌&&◌, nat_lt, ltb-true, List, [], ◌∷◌, ◌++◌, flat_map, refl, sym, ap, ◌∙◌, append-nil}
use Rattle.std.proofs.lemmas.Bool.{and_parts}
use Rattle.std.proofs.lemmas.Grind.{flat_map-append}
use Rattle.std.proofs.lemmas.Str.Ascii.{IsAscii-cons, IsAscii-nil}
use Rattle.std.specs.Str.{IsAscii}
use Rattle.hex.proofs.HexLemmas.{IsAscii-encode_with}
use Rattle.hex.specs.Hex.{encode_lower, lower_digits}
use Rattle.tox_text.specs.Names.{visible}

-- one character more
pub shown_more : (done : List ℕ) (letter : ℕ) → flat_map visible done ++ visible letter ≡ flat_map visible (done ++ letter ∷ [])
shown_more done letter =
    sym (flat_map-append visible done (letter ∷ []) ∙ ap (λ (text : List ℕ). flat_map visible done ++ text) (append-nil (visible letter)))

-- one character more, and the others
pub shown_parts : (done : List ℕ) (letter : ℕ) (rest all : List ℕ) → all ≡ done ++ letter ∷ rest
    → flat_map visible done ++ (visible letter ++ flat_map visible rest) ≡ flat_map visible all
shown_parts done letter rest all is = sym (ap (flat_map visible) is ∙ flat_map-append visible done (letter ∷ rest))

-- whether all bytes are ASCII
abbrev are_ascii : List ℕ → Bool
are_ascii [] = true
are_ascii (byte ∷ bytes) = nat_lt byte 128 && are_ascii bytes

IsAscii-are_ascii : (bytes : List ℕ) → are_ascii bytes ≡ true → IsAscii bytes
IsAscii-are_ascii [] all = IsAscii-nil
IsAscii-are_ascii (byte ∷ bytes) all =
    let parts = and_parts _ _ all in IsAscii-cons byte bytes (ltb-true _ _ parts.0) (IsAscii-are_ascii bytes parts.1)

pub IsAscii-encode_lower : (bytes : List ℕ) → IsAscii (encode_lower bytes)
IsAscii-encode_lower bytes = IsAscii-encode_with lower_digits bytes (IsAscii-are_ascii lower_digits refl)
