-- Which of two instants comes first.
use Rattle.std.specs.Prelude.{ℕ, min, Option, Some, None}

-- the earlier of two instants that may be
abbrev pub earlier_of : Option ℕ → Option ℕ → Option ℕ
earlier_of None other = other
earlier_of (Some one) None = Some one
earlier_of (Some one) (Some other) = Some (min one other)
