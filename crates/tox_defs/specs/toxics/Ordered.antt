-- Items in order: none leaves before the one given last.
use Rattle.std.specs.Prelude.{ℕ, max}
use Rattle.tox_time.specs.declared.streams.item.Item.{Item}
use Rattle.tox_time.specs.declared.streams.item.Item.TheVariants.{Chunk, Closed, Reset, Quiet}

-- the item, not before an instant
abbrev pub in_order : ℕ → Item → Item
in_order since (Chunk span t) = Chunk span (max since t)
in_order since (Closed t) = Closed (max since t)
in_order since (Reset t) = Reset (max since t)
in_order since Quiet = Quiet
