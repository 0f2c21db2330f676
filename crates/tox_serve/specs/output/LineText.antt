-- The text of one line.
use Rattle.std.specs.Prelude.{◌≡◌, ℕ, ◌<◌, List, length, Option, MatchOption}
use Rattle.tox_serve.specs.declared.output.text.LineText.{LineText}

-- a line has this text, or the text is longer than the longest line
abbrev pub IsLine : Option LineText → List ℕ → Type 0
IsLine made text = MatchOption made (6144 < length text) (λ line. line.bytes.items ≡ text)
