-- The name that is nearest to a mistyped one.
use Rattle.std.specs.Prelude.{ℕ, ◌+◌, ◌==◌, Bool, List, length, nat_le, Option, None, if◌then◌else◌}
use Rattle.std.specs.List.{find}
use Rattle.std.specs.Option.{option_or}
use Rattle.std.specs.Str.{chars}
use Rattle.strsim.specs.Edits.{osa_table}

-- the optimal string alignment distance of two names: insertions, deletions, changes and swaps of neighbours
abbrev pub distance : List ℕ → List ℕ → ℕ
distance name other = (osa_table (chars name) (chars other)).last_row (length (chars other))

-- whether a name is at a distance of another
abbrev pub is_apart : ℕ → List ℕ → List ℕ → Bool
is_apart apart name other = distance name other == apart

-- the first name at a distance
abbrev pub at_distance : ℕ → List ℕ → List (List ℕ) → Option (List ℕ)
at_distance apart name names = find (is_apart apart name) names

-- the first name at a distance, if that is below half of the name's length
abbrev pub if_near : ℕ → List ℕ → List (List ℕ) → Option (List ℕ)
if_near apart name names =
    if nat_le (length (chars name)) (apart + apart) then None else at_distance apart name names

-- the nearest name, which is at distance 1 or 2
abbrev pub nearest : List ℕ → List (List ℕ) → Option (List ℕ)
nearest name names = option_or (if_near 1 name names) (if_near 2 name names)
