-- timeout: no data passes, from the start or later, and the link closes after a time, or never.
use Rattle.std.specs.Prelude.{◌==◌, ◌&&◌, ◌≡◌, ℕ, zero, suc, ◌*◌, ◌<◌, ◌≤◌, All, List, [], ◌∷◌, Option, None, Some, codes, length, slice_index}
use Rattle.tox_time.specs.declared.streams.item.Item.{Item}
use Rattle.tox_time.specs.declared.streams.item.Item.TheVariants.{Chunk}
use Rattle.tox_time.specs.declared.streams.ending.Ending.{Ending}
use Rattle.tox_time.specs.declared.streams.ending.Ending.TheVariants.{StillOpen, Closed}
use Rattle.tox_time.specs.Time.{micros_of}
use Rattle.tox_time.specs.streams.Table.{final_of, table}
use Rattle.tox_defs.specs.declared.toxic.Toxic.{Toxic}
use Rattle.tox_defs.specs.declared.toxic.Toxic.TheVariants.{Timeout}
use Rattle.tox_defs.specs.declared.operations.op.Op.{Op}
use Rattle.tox_defs.specs.declared.operations.op.Op.TheVariants.{Mute, Halt}
use Rattle.tox_defs.specs.toxics.Ranges.{up_to_hour, up_to_max_bytes}
use Rattle.tox_defs.specs.toxics.Halt.{halt_gives}
use Rattle.tox_defs.specs.Effects.{always, any_effect}
use Rattle.tox_defs.specs.Meaning.{Description, Meaning}
use Rattle.tox_defs.specs.stage.Reaction.{Giving}

-- its name, and its attributes: twice up to an hour of milliseconds, and up to 2^40 bytes
abbrev pub timeout_description : ℕ → ℕ → ℕ → Description
timeout_description timeout from after = record {
  name = codes "timeout";
  attributes = codes "timeout" ∷ codes "from" ∷ codes "after" ∷ [];
  limits = up_to_hour ∷ up_to_hour ∷ up_to_max_bytes ∷ [];
  values = timeout ∷ from ∷ after ∷ [];
  window = always;
  effect = record any_effect { drops_data = from == 0 && (after == 0) };
}

-- the timeout with these values of its attributes
abbrev pub timeout_of : List ℕ → Toxic
timeout_of values = Timeout (slice_index values 0) (slice_index values 1) (slice_index values 2)

-- how a timeout of so many milliseconds ends a link: with 0 it doesn't
abbrev pub timeout_ending : ℕ → Ending
timeout_ending zero = StillOpen
timeout_ending (suc millis) = Closed (micros_of (suc millis))

-- chunks vanish, and any final becomes this one
abbrev pub mute_gives : Item → Giving
mute_gives final state (Chunk span t) = []
mute_gives final state item = final ∷ []

-- the instant at which it begins: with 0 there is none
abbrev pub timeout_start : ℕ → Option ℕ
timeout_start zero = None
timeout_start (suc from) = Some (micros_of (suc from))

-- what it gives: with an instant or bytes it begins there
abbrev pub timeout_gives : ℕ → ℕ → ℕ → Giving
timeout_gives timeout zero zero = mute_gives (final_of (timeout_ending timeout))
timeout_gives timeout from after = halt_gives (timeout_start from) after (timeout_ending timeout)

-- its operation
abbrev pub timeout_op : ℕ → ℕ → ℕ → Op
timeout_op timeout zero zero = Mute (timeout_ending timeout)
timeout_op timeout from after = Halt (timeout_start from) after (timeout_ending timeout)

-- every byte leaves before so many milliseconds; with 0 nothing is said
abbrev pub LeavesBefore : ℕ → List Item → Type 0
LeavesBefore zero given = Unit {0}
LeavesBefore (suc from) given = All (λ t. t < 1000 * suc from) (table given)

-- so many bytes leave at most; with 0 nothing is said
abbrev pub LeavesAtMost : ℕ → List Item → Type 0
LeavesAtMost zero given = Unit {0}
LeavesAtMost (suc after) given = length (table given) ≤ suc after

-- the law: no byte leaves, or those before the instant alone, and no more than so many
abbrev pub TimeoutLaw : ℕ → ℕ → List Item → Type 0
TimeoutLaw zero zero given = table given ≡ []
TimeoutLaw from after given = LeavesBefore from given × LeavesAtMost after given

-- what a timeout is
abbrev pub timeout_meaning : ℕ → ℕ → ℕ → Meaning
timeout_meaning timeout from after = record {
  description = timeout_description timeout from after;
  with_values = timeout_of;
  gives = λ words. timeout_gives timeout from after;
  op = λ place. timeout_op timeout from after;
  law = λ items given. TimeoutLaw from after given;
}
