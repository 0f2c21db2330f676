-- The arrivals of a network, some of which are in.
use Rattle.std.specs.Prelude.{List}
use Rattle.tox_time.specs.declared.streams.item.Item.{Item}

-- all arrivals with their final, and those that wait
pub record Arriving : Type 0 where
  pub arrived : List Item
  pub waiting : List Item
