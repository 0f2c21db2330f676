-- The first of many runs, and how many more there are.
use Rattle.std.specs.Prelude.{◌≡◌, ◌-◌, List, length, take}
use Rattle.tox_check.specs.declared.listed.Listed.{Listed}
use Rattle.tox_check.specs.declared.run.Run.{Run}

-- the first eight of some runs, and how many more there are
pub record IsListed (runs : List Run) (listed : Listed) : Type 0 where
  pub shown : listed.shown.items ≡ take 8 runs
  pub more : listed.more ≡ length runs - 8
