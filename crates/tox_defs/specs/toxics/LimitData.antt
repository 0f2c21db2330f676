-- limit_data: the link closes once so many bytes have passed.
use Rattle.std.specs.Prelude.{◌≡◌, ℕ, min, List, [], ◌∷◌, codes, length, slice_index}
use Rattle.tox_time.specs.declared.streams.item.Item.{Item}
use Rattle.tox_time.specs.declared.streams.ending.Ending.TheVariants.{Closed}
use Rattle.tox_time.specs.streams.Stream.{arrived}
use Rattle.tox_time.specs.streams.Table.{table}
use Rattle.tox_defs.specs.declared.toxic.Toxic.{Toxic}
use Rattle.tox_defs.specs.declared.toxic.Toxic.TheVariants.{LimitData}
use Rattle.tox_defs.specs.declared.operations.op.Op.TheVariants.{Limit}
use Rattle.tox_defs.specs.toxics.Ranges.{up_to_max_bytes}
use Rattle.tox_defs.specs.toxics.FirstBytes.{bytes_give}
use Rattle.tox_defs.specs.Effects.{always, any_effect}
use Rattle.tox_defs.specs.Meaning.{Description, Meaning}
use Rattle.tox_defs.specs.stage.Reaction.{Giving}

-- its name, and its attribute: up to 2^40 bytes
abbrev pub limit_data_description : ℕ → Description
limit_data_description bytes = record {
  name = codes "limit_data";
  attributes = codes "bytes" ∷ [];
  limits = up_to_max_bytes ∷ [];
  values = bytes ∷ [];
  window = always;
  effect = any_effect;
}

-- the limit_data with this value of its attribute
abbrev pub limit_data_of : List ℕ → Toxic
limit_data_of values = LimitData (slice_index values 0)

-- so many bytes in all, and then a close
abbrev pub limit_gives : ℕ → Giving
limit_gives bytes = bytes_give bytes (λ t. Closed t)

-- the law: so many bytes pass, or all that came
abbrev pub LimitDataLaw : ℕ → List Item → List Item → Type 0
LimitDataLaw bytes items given = length (table given) ≡ min bytes (arrived items)

-- what a limit_data is
abbrev pub limit_data_meaning : ℕ → Meaning
limit_data_meaning bytes = record {
  description = limit_data_description bytes;
  with_values = limit_data_of;
  gives = λ words. limit_gives bytes;
  op = λ place. Limit bytes;
  law = LimitDataLaw bytes;
}
