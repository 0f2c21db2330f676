-- The axes.
use Rattle.std.specs.Prelude.{◌≡◌, ℕ, ◌*◌, ◌/◌, ◌<◌, ◌≤◌, List, [], ◌∷◌, max, nat_le, flat_map, unwrap_or}
use Rattle.std.specs.List.{find}
use Rattle.std.specs.Int.{div_ceil}
use Rattle.tox_draw.specs.declared.axis.Axis.{Axis}

-- 1, 2 and 5 times a power of ten
abbrev pub round_ones : ℕ → List ℕ
round_ones power = power ∷ 2 * power ∷ 5 * power ∷ []

-- the steps, up to 5 * 10^14
unfoldable pub axis_steps : List ℕ
axis_steps =
    flat_map round_ones
    (1 ∷ 10 ∷ 100 ∷ 1000 ∷ 10000 ∷ 100000 ∷ 1000000 ∷ 10000000 ∷ 100000000 ∷ 1000000000
    ∷ 10000000000 ∷ 100000000000 ∷ 1000000000000 ∷ 10000000000000 ∷ 100000000000000 ∷ [])

-- the first of some steps that isn't below a value, or the greatest step
abbrev pub first_from : List ℕ → ℕ → ℕ
first_from steps least = unwrap_or (find (λ step. nat_le least step) steps) 500000000000000

-- the smallest step that is at least an eighth of a greatest value: at most eight of it reach that value
unfoldable pub step_of : ℕ → ℕ
step_of greatest = first_from axis_steps (div_ceil greatest 8)

-- the axis of a step: so many of it that a value is reached
abbrev pub axis_by : ℕ → ℕ → Axis
axis_by greatest step =
    record { step = step; count = div_ceil greatest step; end = div_ceil greatest step * step }

-- the axis of a greatest value, where 0 is taken as 1
abbrev pub axis_of : ℕ → Axis
axis_of greatest = axis_by (max greatest 1) (step_of (max greatest 1))

-- a value's part of a whole that is so long
abbrev pub part_of : ℕ → ℕ → ℕ → ℕ
part_of value whole long = value * long / whole

-- an axis that has a step, and ends by 1.5 * 10^15
pub record IsAxis (axis : Axis) : Type 0 where
  pub some : 0 < axis.count
  pub ends : axis.count * axis.step ≡ axis.end
  pub few : axis.count ≤ 1500000000000000
  pub long : 0 < axis.end
  pub near : axis.end ≤ 1500000000000000
