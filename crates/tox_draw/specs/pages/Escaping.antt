-- Texts of others in a page.
use Rattle.std.specs.Prelude.{ℕ, ◌==◌, List, [], ◌∷◌, codes, flat_map, if◌then◌else◌}

-- a byte of a text, as the page has it: `&`, `<`, `>` and `"` are escaped
abbrev pub html_byte : ℕ → List ℕ
html_byte byte =
    if byte == 38 then codes "&amp;" else
    if byte == 60 then codes "&lt;" else
    if byte == 62 then codes "&gt;" else
    if byte == 34 then codes "&quot;" else byte ∷ []

-- a text, as the page has it
abbrev pub html : List ℕ → List ℕ
html text = flat_map html_byte text
