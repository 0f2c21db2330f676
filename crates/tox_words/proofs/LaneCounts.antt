-- How many lanes there may be.
use Rattle.std.proofs.Common.{◌≤◌, arith}
use Rattle.tox_words.specs.declared.lanes.Lanes.{Lanes}
use Rattle.tox_words.specs.declared.lanes.Lanes.TheVariants.{Sixteen, ThirtyTwo}
use Rattle.tox_words.specs.Draw.{lane_count}

-- 32 at most
pub lane_count-most : (lanes : Lanes) → lane_count lanes ≤ 32
lane_count-most Sixteen = omega arith
lane_count-most ThirtyTwo = omega arith
