-- What was collected of the items that came out of the last ring.
use Rattle.std.specs.Prelude.{◌≡◌, false, List}
use Rattle.tox_time.specs.declared.streams.item.Item.{Item}
use Rattle.tox_time.specs.streams.Stream.{has_final}
use Rattle.tox_stages.specs.declared.collected.Collected.{Collected}

-- these items came: they are kept, unless memory was refused, and it is known whether they have a final
pub record Collects (collected : Collected) (items : List Item) : Type 0 where
  pub kept : collected.refused ≡ false → collected.delivered ≡ items
  pub ended : collected.ended ≡ has_final items
