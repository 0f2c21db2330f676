-- The lines of a text that are left.
use Rattle.std.specs.Prelude.{ℕ, ◌+◌, List, [], length, Option, Some, None}
use Rattle.tox_text.specs.arrivals.ArrivalsText.{lines_of}

-- the lines of what is left of a text
abbrev pub lines_left : Option (List ℕ) → List (List ℕ)
lines_left None = []
lines_left (Some rest) = lines_of rest

-- one more than the bytes that are left
abbrev pub size_left : Option (List ℕ) → ℕ
size_left None = 0
size_left (Some rest) = length rest + 1
