-- The bounds of a number that a drawn word varies.
use Rattle.std.proofs.Common.{ℕ, ◌+◌, ◌-◌, ◌*◌, ◌%◌, ◌<◌, ◌≤◌, arith}
use Rattle.tox_defs.specs.toxics.Varied.{varied}

pub varied-within : (middle variation word : ℕ) → (middle - variation ≤ varied middle variation word) × (varied middle variation word ≤ middle + variation)
varied-within middle variation word =
    let most : word % (2 * variation + 1) < 2 * variation + 1 = omega arith in (omega (arith, most), omega (arith, most))

pub varied-positive : (middle variation word : ℕ) → variation < middle → 0 < varied middle variation word
varied-positive middle variation word less = omega (arith, (varied-within middle variation word).0)
