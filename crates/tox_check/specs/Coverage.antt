-- What the connections of a rule meet.
use Rattle.std.specs.Prelude.{ℕ, ◌==◌, ◌&&◌, Bool, not, List, filter, map, max, min, nat_le, Option, unwrap_or}
use Rattle.tox_check.specs.declared.run.Run.{Run}

-- whether a run intersects a range
abbrev pub reaches : ℕ → ℕ → Run → Bool
reaches first last run = nat_le first run.last && nat_le run.first last

-- a run cut to a range
abbrev pub cut_to_range : ℕ → ℕ → Run → Run
cut_to_range first last run =
    record { first = max run.first first; last = min run.last last; rule = run.rule }

-- the runs that intersect a range, cut to it
abbrev pub within : ℕ → ℕ → List Run → List Run
within first last runs = map (cut_to_range first last) (filter (reaches first last) runs)

-- whether the connections of a run meet a rule
abbrev pub meets_rule : ℕ → Run → Bool
meets_rule rule run = run.rule == rule

-- the runs that meet a rule
abbrev pub own_of : ℕ → List Run → List Run
own_of rule runs = filter (meets_rule rule) runs

-- the runs that meet another one
abbrev pub taken_of : ℕ → List Run → List Run
taken_of rule runs = filter (λ run. not (meets_rule rule run)) runs

-- the last connection of a rule, of those that there are
abbrev pub last_of : Option ℕ → ℕ
last_of last = min (unwrap_or last 1_000_000) 1_000_000
