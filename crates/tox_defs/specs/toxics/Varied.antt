-- Numbers that a drawn word varies.
use Rattle.std.specs.Prelude.{ℕ, ◌+◌, ◌-◌, ◌*◌, ◌%◌}

-- a number varied by a drawn word, up or down and not below 0
abbrev pub varied : ℕ → ℕ → ℕ → ℕ
varied middle variation word = (middle + word % (2 * variation + 1)) - variation
