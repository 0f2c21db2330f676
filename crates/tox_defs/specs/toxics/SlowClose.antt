-- slow_close: a close leaves later.
use Rattle.std.specs.Prelude.{◌==◌, ◌≡◌, ℕ, List, [], ◌∷◌, codes, slice_index, ◌*◌}
use Rattle.tox_time.specs.declared.streams.item.Item.{Item}
use Rattle.tox_time.specs.declared.streams.item.Item.TheVariants.{Closed}
use Rattle.tox_time.specs.Time.{plus}
use Rattle.tox_time.specs.streams.Table.{table}
use Rattle.tox_defs.specs.declared.toxic.Toxic.{Toxic}
use Rattle.tox_defs.specs.declared.toxic.Toxic.TheVariants.{SlowClose}
use Rattle.tox_defs.specs.declared.operations.op.Op.TheVariants.{Slow}
use Rattle.tox_defs.specs.toxics.Ranges.{up_to_hour}
use Rattle.tox_defs.specs.Effects.{always, any_effect}
use Rattle.tox_defs.specs.Meaning.{Description, Meaning}
use Rattle.tox_defs.specs.stage.Reaction.{Giving}

-- its name, and its attribute: up to an hour of milliseconds
abbrev pub slow_close_description : ℕ → Description
slow_close_description delay = record {
  name = codes "slow_close";
  attributes = codes "delay" ∷ [];
  limits = up_to_hour ∷ [];
  values = delay ∷ [];
  window = always;
  effect = record any_effect { does_nothing = delay == 0 };
}

-- the slow_close with this value of its attribute
abbrev pub slow_close_of : List ℕ → Toxic
slow_close_of values = SlowClose (slice_index values 0)

-- only a close leaves later, by so many microseconds
abbrev pub slow_gives : ℕ → Giving
slow_gives micros state (Closed t) = Closed (plus t micros) ∷ []
slow_gives micros state item = item ∷ []

-- the law: every byte leaves when it came
abbrev pub SlowCloseLaw : List Item → List Item → Type 0
SlowCloseLaw items given = table given ≡ table items

-- what a slow_close is
abbrev pub slow_close_meaning : ℕ → Meaning
slow_close_meaning delay = record {
  description = slow_close_description delay;
  with_values = slow_close_of;
  gives = λ words. slow_gives (1000 * delay);
  op = λ place. Slow delay;
  law = SlowCloseLaw;
}
