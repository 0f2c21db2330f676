-- Bounds that may be missing.
use Rattle.std.specs.Prelude.{ℕ, Bool, false, nat_le, Option, Some, None}

-- whether a bound is reached, if there is one
abbrev pub is_reached : Option ℕ → ℕ → Bool
is_reached None value = false
is_reached (Some bound) value = nat_le bound value
