-- The cells of a row.
use Rattle.std.specs.Prelude.{ℕ, List, ◌++◌, codes, decimal}
use Rattle.tox_draw.specs.pages.Escaping.{html}
use Rattle.tox_draw.specs.pages.Millis.{millis}

-- a cell of a text, behind its tag
unfoldable pub text_cell : List ℕ → List ℕ → List ℕ
text_cell tag word = tag ++ (html word ++ codes "</td>")

-- a cell of a number
unfoldable pub number_cell : ℕ → List ℕ
number_cell number = codes "<td class=\"number\">" ++ (decimal number ++ codes "</td>")

-- a cell of microseconds in milliseconds, behind a mark
unfoldable pub millis_cell : List ℕ → ℕ → List ℕ
millis_cell mark micros =
    codes "<td class=\"number\">" ++ (mark ++ (millis micros ++ codes "</td>"))

-- a cell of a word and an instant
unfoldable pub instant_cell : List ℕ → ℕ → List ℕ
instant_cell word micros = codes "<td>" ++ (word ++ (millis micros ++ codes "</td>"))

-- a cell of a word
unfoldable pub word_cell : List ℕ → List ℕ
word_cell word = codes "<td>" ++ (word ++ codes "</td>")
