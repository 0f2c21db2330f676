-- Queues with room for so many items each.
use Rattle.std.specs.Prelude.{ℕ, List, [], slice_index_or}
use Rattle.tox_time.specs.declared.streams.item.Item.{Item}

-- what the queues are seen as
pub record Queued : Type 0 where
  pub room : ℕ
  pub lists : List (List Item)

-- the items of queue k
abbrev pub list_at : Queued → ℕ → List Item
list_at queues k = slice_index_or queues.lists k []
