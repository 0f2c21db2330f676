-- Each step of an axis is above 0, and none is greater than the last.
use Rattle.std.proofs.Common.{◌≡◌, ℕ, ◌<◌, ◌≤◌, Bool, true, false, List, [], ◌∷◌, ◌&&◌, nat_lt, nat_le, refl, arith, cond, unwrap_or, Some}
use Rattle.std.specs.Int.{div_ceil}
use Rattle.std.specs.List.{find, list_all}
use Rattle.tox_draw.specs.Axes.{axis_steps, first_from, step_of}

-- whether a step is above 0 and not greater than the last
abbrev pub is_step : ℕ → Bool
is_step step = nat_lt 0 step && nat_le step 500000000000000

first : (a b : Bool) → (a && b) ≡ true → a ≡ true
first true b both = refl
first false b both = both

others : (a b : Bool) → (a && b) ≡ true → b ≡ true
others true b both = both
others false b both = absurd (cc)

first_from-is_step : (steps : List ℕ) (least : ℕ) → list_all is_step steps ≡ true → is_step (first_from steps least) ≡ true
first_from-is_step [] least all = refl
first_from-is_step (step ∷ steps) least all =
    elim (nat_le least step) as (λ b. is_step (unwrap_or (cond b (Some step) (find (nat_le least) steps)) 500000000000000) ≡ true) [
      | true ↦ first (is_step step) (list_all is_step steps) all
      | false ↦ first_from-is_step steps least (others (is_step step) (list_all is_step steps) all)
    ]

in_range : (step : ℕ) → is_step step ≡ true → (0 < step) × (step ≤ 500000000000000)
in_range step is = (grind arith, grind arith)

pub step_of-in_range : (greatest : ℕ) → (0 < step_of greatest) × (step_of greatest ≤ 500000000000000)
unfolding step_of axis_steps
step_of-in_range greatest = in_range _ (first_from-is_step axis_steps (div_ceil greatest 8) refl)
