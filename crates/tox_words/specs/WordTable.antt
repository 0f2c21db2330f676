-- The words that a drawing draws from, lent to it or its own.
use Rattle.std.specs.Prelude.{ℕ, List}
use Rattle.tox_words.specs.declared.word_table.WordTable.{WordTable}
use Rattle.tox_words.specs.declared.word_table.WordTable.TheVariants.{Lent, Owned}

-- the words in order
abbrev pub words_in : WordTable → List ℕ
words_in (Lent words) = words.now
words_in (Owned words) = words.items
