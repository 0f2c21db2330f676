-- When a writer has stopped taking bytes.
use Rattle.std.specs.Prelude.{ℕ, ◌==◌, ◌&&◌, Bool, not, List, length}

-- whether a writer took none of some bytes
abbrev pub takes_nothing : ℕ → List ℕ → Bool
takes_nothing n bytes = n == 0 && not (length bytes == 0)
