-- Which bytes are a JSON text.
use Rattle.std.proofs.Common.{◌≡◌, ℕ, ◌<◌, Bool, true, false, cond, IsTrue, List, [], ◌∷◌, length, None, Some, arith, refl}
use Rattle.std.specs.Str.{IsUtf8, is_utf8}
use Rattle.std.proofs.lemmas.Str.{IsUtf8-from_is_utf8, is_utf8-from_IsUtf8}
use Rattle.serde_json.proofs.OnLiterals.{serde_json_on_literals}
use Rattle.serde_json.specs.Data.{Data}
use Rattle.serde_json.specs.Read.{read}
use Rattle.tox_config.specs.Populate.{json_of}

-- of a text it is what the text reads as
pub json_of-text : (bytes : List ℕ) → IsUtf8 bytes → json_of bytes ≡ read bytes
json_of-text bytes text = let test : is_utf8 bytes ≡ true = is_utf8-from_IsUtf8 bytes text in rw test refl

-- by the test for a text
no_text : (bytes : List ℕ) (test : Bool) → is_utf8 bytes ≡ test → ¬ (IsUtf8 bytes) → json_of bytes ≡ None
no_text bytes true is other = absurd (other (IsUtf8-from_is_utf8 bytes is))
no_text bytes false is other = rw is refl

-- other bytes have no value
pub json_of-other : (bytes : List ℕ) → ¬ (IsUtf8 bytes) → json_of bytes ≡ None
json_of-other bytes other = no_text bytes (is_utf8 bytes) refl other

-- the empty text has no value
json_of-empty : (test : Bool) → cond test (read []) None ≡ None
unfolding serde_json_on_literals
json_of-empty true = refl
json_of-empty false = refl

-- bytes that have a value are a text, and some
pub text-json_of : (bytes : List ℕ) (d : Data) → json_of bytes ≡ Some d → IsTrue (is_utf8 bytes) × (0 < length bytes)
text-json_of [] d is = absurd (cc (json_of-empty (is_utf8 [])))
text-json_of (byte ∷ bytes) d is = (at (is_utf8 (byte ∷ bytes)) is, omega arith)
  where
    at : (test : Bool) → cond test (read (byte ∷ bytes)) None ≡ Some d → IsTrue test
    at true there = refl
    at false there = absurd (cc)
