-- Which bytes are a TOML document.
use Rattle.std.proofs.Common.{◌≡◌, ℕ, Bool, true, false, List, None, option_map, refl}
use Rattle.std.specs.Str.{IsUtf8, is_utf8}
use Rattle.std.proofs.lemmas.Str.{IsUtf8-from_is_utf8, is_utf8-from_IsUtf8}
use Rattle.toml.specs.Data.{table}
use Rattle.toml.specs.Parse.{parse_document}
use Rattle.tox_script.specs.Script.{toml_of}

-- of a text it is what the text reads as
pub toml_of-text : (bytes : List ℕ) → IsUtf8 bytes → toml_of bytes ≡ option_map table (parse_document bytes)
toml_of-text bytes text = let test : is_utf8 bytes ≡ true = is_utf8-from_IsUtf8 bytes text in rw test refl

-- by the test for a text
no_text : (bytes : List ℕ) (test : Bool) → is_utf8 bytes ≡ test → ¬ (IsUtf8 bytes) → toml_of bytes ≡ None
no_text bytes true is other = absurd (other (IsUtf8-from_is_utf8 bytes is))
no_text bytes false is other = rw is refl

-- other bytes have none
pub toml_of-other : (bytes : List ℕ) → ¬ (IsUtf8 bytes) → toml_of bytes ≡ None
toml_of-other bytes other = no_text bytes (is_utf8 bytes) refl other
