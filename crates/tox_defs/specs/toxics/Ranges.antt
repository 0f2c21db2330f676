-- Ranges of attributes.
use Rattle.std.specs.Prelude.{ℕ, ◌&&◌, ◌^◌, Bool, List, min, nat_le}
use Rattle.std.specs.List.{list_all, zip}
use Rattle.tox_defs.specs.declared.attributes.limits.Limits.{Limits}

-- up to an hour, in milliseconds
abbrev pub up_to_hour : Limits
up_to_hour = record { least = 0; most = 3600000 }

-- one to a million
abbrev pub one_to_million : Limits
one_to_million = record { least = 1; most = 1000000 }

-- up to 2^40 bytes
abbrev pub up_to_max_bytes : Limits
up_to_max_bytes = record { least = 0; most = 2 ^ 40 }

-- any number of 64 bits
abbrev pub any_value : Limits
any_value = record { least = 0; most = 18446744073709551615 }

-- whether a value is in a range
abbrev pub is_in : Limits → ℕ → Bool
is_in limits value = nat_le limits.least value && nat_le value limits.most

-- whether each value is in the range at its place
abbrev pub are_in : List Limits → List ℕ → Bool
are_in limits values = list_all (λ pair. is_in pair.0 pair.1) (zip limits values)

-- a value, or the greatest of 32 bits where it is larger
abbrev pub narrowed : ℕ → ℕ
narrowed value = min value 4_294_967_295
