-- The texts of so many numbers, and of one more.
use Rattle.std.proofs.Common.{◌≡◌, ℕ, ◌+◌, List, ◌++◌, refl, add-one}
use Rattle.tox_draw.specs.Ticks.{firsts}

pub firsts_next : (text : ℕ → List ℕ) (n : ℕ) → firsts text (n + 1) ≡ firsts text n ++ text n
firsts_next text n = rw add-one refl
