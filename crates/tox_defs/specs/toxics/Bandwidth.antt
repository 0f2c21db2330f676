-- bandwidth: no more than so many bytes pass in a millisecond.
use Rattle.std.specs.Prelude.{true, ℕ, ◌+◌, ◌*◌, ◌<◌, ◌≤◌, List, [], ◌∷◌, codes, length, slice_index}
use Rattle.std.specs.Int.{div_ceil}
use Rattle.tox_time.specs.declared.streams.item.Item.{Item}
use Rattle.tox_time.specs.declared.streams.item.Item.TheVariants.{Chunk}
use Rattle.tox_time.specs.Time.{plus}
use Rattle.tox_time.specs.streams.Table.{table}
use Rattle.tox_defs.specs.declared.toxic.Toxic.{Toxic}
use Rattle.tox_defs.specs.declared.toxic.Toxic.TheVariants.{Bandwidth}
use Rattle.tox_defs.specs.declared.operations.op.Op.TheVariants.{Pace}
use Rattle.tox_defs.specs.toxics.Ordered.{in_order}
use Rattle.tox_defs.specs.toxics.Pieces.{leave, pieces_of}
use Rattle.tox_defs.specs.toxics.Ranges.{one_to_million, up_to_hour}
use Rattle.tox_defs.specs.Effects.{any_effect}
use Rattle.tox_defs.specs.Meaning.{Description, Meaning}
use Rattle.tox_defs.specs.stage.Reaction.{Giving}

-- its name, and its attributes: one to a million KB/s, which is bytes in a millisecond, and each up to an
-- hour of milliseconds
abbrev pub bandwidth_description : ℕ → ℕ → ℕ → Description
bandwidth_description rate until from = record {
  name = codes "bandwidth";
  attributes = codes "rate" ∷ codes "until" ∷ codes "from" ∷ [];
  limits = one_to_million ∷ up_to_hour ∷ up_to_hour ∷ [];
  values = rate ∷ until ∷ from ∷ [];
  window = record { from = from; until = until };
  effect = record any_effect { needs_data = true };
}

-- the bandwidth with these values of its attributes
abbrev pub bandwidth_of : List ℕ → Toxic
bandwidth_of values = Bandwidth (slice_index values 0) (slice_index values 1) (slice_index values 2)

-- pieces of 100 rate bytes, at `rate` bytes a millisecond
abbrev pub pace_gives : ℕ → Giving
pace_gives rate state (Chunk span t) =
    leave (λ n. div_ceil (1000 * n) rate) state.previous t (pieces_of (λ _. 100 * rate) 0 span)
pace_gives rate state item = in_order state.previous item ∷ []

-- the instant of the first arrival
abbrev pub first_instant : List Item → ℕ
first_instant (Chunk span t ∷ items) = t
first_instant items = 0

-- the law: the n-th byte, from 0, doesn't leave before n + 1 bytes could have passed since the first arrival
abbrev pub BandwidthLaw : ℕ → List Item → List Item → Type 0
BandwidthLaw rate items given =
    (n : ℕ) → n < length (table given)
    → plus (first_instant items) (div_ceil (1000 * (n + 1)) rate) ≤ slice_index (table given) n

-- what a bandwidth is
abbrev pub bandwidth_meaning : ℕ → ℕ → ℕ → Meaning
bandwidth_meaning rate until from = record {
  description = bandwidth_description rate until from;
  with_values = bandwidth_of;
  gives = λ words. pace_gives rate;
  op = λ place. Pace rate until from;
  law = BandwidthLaw rate;
}
