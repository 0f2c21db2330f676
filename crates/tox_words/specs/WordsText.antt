-- A words text: numbers of 32 bits, separated by commas.
use Rattle.std.specs.Prelude.{ℕ, ◌==◌, List, [], ◌∷◌, Option, is_none, Result, Err}
use Rattle.std.specs.List.{filter_map, position, slice_split}
use Rattle.std.specs.Option.{option_map_or}
use Rattle.tox_time.specs.Text.{decimal_value}
use Rattle.tox_words.specs.Table.{table_of}
use Rattle.tox_words.specs.declared.fault.WordsFault.{WordsFault}
use Rattle.tox_words.specs.declared.fault.WordsFault.TheVariants.{NoWords, BadWord}

-- the parts between the commas
abbrev pub parts_of : List ℕ → List (List ℕ)
parts_of text = slice_split (λ byte. byte == 44) text

-- the word that a part writes, in 1 to 10 digits
abbrev pub word_of : List ℕ → Option ℕ
word_of part = decimal_value 10 4_294_967_295 part

-- the words that parts write
abbrev pub words_of : List (List ℕ) → List ℕ
words_of parts = filter_map word_of parts

-- the place of the first part that is no word
abbrev pub bad_place : List (List ℕ) → Option ℕ
bad_place parts = position (λ part. is_none (word_of part)) parts

-- the table of the parts' words, unless a part is bad
abbrev pub table_of_parts : List (List ℕ) → Result (List ℕ) WordsFault
table_of_parts parts =
    option_map_or (λ place. Err (BadWord place)) (bad_place parts) (table_of (words_of parts))

-- the table that a text writes, or its first fault
abbrev pub table_of_text : List ℕ → Result (List ℕ) WordsFault
table_of_text [] = Err NoWords
table_of_text (byte ∷ bytes) = table_of_parts (parts_of (byte ∷ bytes))
