-- Chains: toxics in order, each with its toxicity in thousandths.
use Rattle.std.specs.Prelude.{ℕ, ◌≤◌, Bool, List, All, length, nat_le}
use Rattle.tox_words.specs.declared.lanes.Lanes.{Lanes}
use Rattle.tox_words.specs.Draw.{lane_count}
use Rattle.tox_defs.specs.declared.chain.Entry.{Entry}
use Rattle.tox_defs.specs.Toxic.{IsInRange}

-- the most toxics of a chain, and the most operations of a plan
abbrev pub max_toxics : ℕ
max_toxics = 32

-- what a chain is seen as: its lanes, and its entries in order
pub record Toxics : Type 0 where
  pub lanes : Lanes
  pub entries : List Entry

-- attributes in their ranges, and a toxicity up to 1000
abbrev pub IsEntry : Entry → Type 0
IsEntry entry = IsInRange entry.toxic × (entry.toxicity ≤ 1000)

-- whether each lane has its toxic
abbrev pub is_full : Toxics → Bool
is_full chain = nat_le (lane_count chain.lanes) (length chain.entries)

-- what every chain keeps
pub record IsChain (chain : Toxics) : Type 0 where
  pub most : length chain.entries ≤ lane_count chain.lanes
  pub entries_fit : All IsEntry chain.entries
