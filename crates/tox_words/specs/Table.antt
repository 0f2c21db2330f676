-- Which lists of words are tables, and why the others are refused.
use Rattle.std.specs.Prelude.{ℕ, ◌<◌, ◌≤◌, List, [], ◌∷◌, length, Result, Ok, Err, nat_le, if◌then◌else◌}
use Rattle.tox_words.specs.declared.fault.WordsFault.{WordsFault}
use Rattle.tox_words.specs.declared.fault.WordsFault.TheVariants.{NoWords, TooMany}

-- how many words a table may have
abbrev pub max_words : ℕ
max_words = 4096

-- 1 to 4096 words
abbrev pub IsWordTable : List ℕ → Type 0
IsWordTable words = (0 < length words) × (length words ≤ max_words)

-- the table of a list, or its first fault
abbrev pub table_of : List ℕ → Result (List ℕ) WordsFault
table_of [] = Err NoWords
table_of (word ∷ words) =
    if nat_le (length (word ∷ words)) max_words then Ok (word ∷ words) else Err TooMany
