-- The parts of a printed text.
use Rattle.std.specs.Prelude.{ℕ, List, decimal, flat_map}
use Rattle.hex.specs.Hex.{encode_lower}
use Rattle.tox_text.specs.Names.{visible_name}
use Rattle.tox_text.specs.declared.parts.Part.{Part}
use Rattle.tox_text.specs.declared.parts.Part.TheVariants.{Word, Number, Name, Hex}

-- a part, as it is printed
abbrev pub printed : Part → List ℕ
printed (Word text) = text.now
printed (Number number) = decimal number
printed (Name name) = visible_name name.now
printed (Hex bytes) = encode_lower bytes.now

-- the parts, one behind the other
abbrev pub text_of : List Part → List ℕ
text_of parts = flat_map printed parts
