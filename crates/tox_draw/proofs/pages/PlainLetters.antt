-- A letter that means nothing in HTML stands as it is.
use Rattle.std.proofs.Common.{◌≡◌, ℕ, suc, ◌<◌, ◌≤◌, ◌==◌, false, List, [], ◌∷◌, ◌++◌, length, get_or, inl, inr, refl, sym, ap, ap₂, ◌∙◌, arith, append-nil}
use Rattle.std.proofs.lemmas.Bool.{cases_lt}
use Rattle.std.proofs.lemmas.Str.{encode_ascii, inside_one}
use Rattle.std.specs.Char.{encode_utf8}
use Rattle.tox_draw.specs.pages.Escaping.{html, html_byte}

-- a byte that means something is one of four
pub record IsPlain (byte : ℕ) : Type 0 where
  pub ampersand : (byte == 38) ≡ false
  pub less : (byte == 60) ≡ false
  pub greater : (byte == 62) ≡ false
  pub quote : (byte == 34) ≡ false

plain : (byte : ℕ) → IsPlain byte → html_byte byte ≡ byte ∷ []
plain byte is = rw (is.ampersand, is.less, is.greater, is.quote)

-- a byte past ASCII means nothing
past_ascii : (byte : ℕ) → 128 ≤ byte → IsPlain byte
past_ascii byte past = record { ampersand = grind (arith, past); less = grind (arith, past); greater = grind (arith, past); quote = grind (arith, past) }

-- bytes past ASCII
all_past : (bytes : List ℕ) → ((k : ℕ) → k < length bytes → 128 ≤ get_or bytes k 0) → html bytes ≡ bytes
all_past [] high = refl
all_past (byte ∷ bytes) high =
    let past : 128 ≤ byte = high 0 (omega arith) in
    ap₂ (λ (a b : List ℕ). a ++ b) (plain byte (past_ascii byte past)) (all_past bytes (λ k below. high (suc k) (omega arith)))

pub letter_unchanged : (letter : ℕ) → IsPlain letter → html (encode_utf8 letter) ≡ encode_utf8 letter
letter_unchanged letter is = elim (cases_lt letter 128) [
  | inl small ↦ ap html (encode_ascii letter small) ∙ append-nil (html_byte letter) ∙ plain letter is ∙ sym (encode_ascii letter small)
  | inr big ↦ all_past (encode_utf8 letter) (λ k below. elim (cases_lt (get_or (encode_utf8 letter) k 0) 128) [
    | inl low ↦ absurd (omega (arith, inside_one letter [] (encode_utf8 letter) k (sym (append-nil _)) below low))
    | inr high ↦ high
  ])
]
