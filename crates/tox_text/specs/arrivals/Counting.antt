-- What the check of an arrivals text counts.
use Rattle.std.specs.Prelude.{◌≡◌}
use Rattle.tox_time.specs.declared.streams.position.StreamPosition.{StreamPosition}
use Rattle.tox_time.specs.streams.Stream.{arrived, latest as last_instant, has_final}
use Rattle.tox_text.specs.arrivals.ArrivalsText.{Arrived}
use Rattle.tox_text.specs.arrivals.Checked.{AreArrivals}

-- what arrived so far, as it is counted
pub record Counts (count : StreamPosition) (so_far : Arrived) : Type 0 where
  pub arrivals : AreArrivals so_far
  pub bytes : count.position ≡ arrived so_far.items
  pub latest : count.latest ≡ last_instant so_far.items
  pub ended : count.ended ≡ has_final so_far.items
