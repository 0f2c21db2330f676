-- reset_peer: the link is reset at an instant, or behind so many bytes.
use Rattle.std.specs.Prelude.{◌≡◌, ℕ, zero, suc, ◌*◌, ◌<◌, min, All, List, [], ◌∷◌, None, codes, length, slice_index, if◌then◌else◌}
use Rattle.tox_time.specs.declared.streams.item.Item.{Item}
use Rattle.tox_time.specs.declared.streams.item.Item.TheVariants.{Reset}
use Rattle.tox_time.specs.declared.streams.ending.Ending.TheVariants as end
use Rattle.tox_time.specs.Time.{micros_of}
use Rattle.tox_time.specs.streams.Stream.{arrived}
use Rattle.tox_time.specs.streams.Table.{table}
use Rattle.tox_defs.specs.declared.toxic.Toxic.{Toxic}
use Rattle.tox_defs.specs.declared.toxic.Toxic.TheVariants.{ResetPeer}
use Rattle.tox_defs.specs.declared.operations.op.Op.{Op}
use Rattle.tox_defs.specs.declared.operations.op.Op.TheVariants.{Cutoff, Halt}
use Rattle.tox_defs.specs.toxics.Ranges.{up_to_hour, up_to_max_bytes}
use Rattle.tox_defs.specs.toxics.Halt.{halt_gives, is_before}
use Rattle.tox_defs.specs.Effects.{always, any_effect}
use Rattle.tox_defs.specs.Meaning.{Description, Meaning}
use Rattle.tox_defs.specs.stage.Reaction.{Giving}

-- its name, and its attributes: up to an hour of milliseconds, and up to 2^40 bytes
abbrev pub reset_peer_description : ℕ → ℕ → Description
reset_peer_description timeout after = record {
  name = codes "reset_peer";
  attributes = codes "timeout" ∷ codes "after" ∷ [];
  limits = up_to_hour ∷ up_to_max_bytes ∷ [];
  values = timeout ∷ after ∷ [];
  window = always;
  effect = any_effect;
}

-- the reset_peer with these values of its attributes
abbrev pub reset_peer_of : List ℕ → Toxic
reset_peer_of values = ResetPeer (slice_index values 0) (slice_index values 1)

-- what is not before the instant becomes a reset at it
abbrev pub cutoff_gives : ℕ → Giving
cutoff_gives instant state item = (if is_before instant item then item else Reset instant) ∷ []

-- what it gives: with bytes it waits for them, whatever the instant
abbrev pub reset_peer_gives : ℕ → ℕ → Giving
reset_peer_gives timeout zero = cutoff_gives (micros_of timeout)
reset_peer_gives timeout (suc after) = halt_gives None (suc after) (end.Reset (micros_of timeout))

-- its operation
abbrev pub reset_peer_op : ℕ → ℕ → Op
reset_peer_op timeout zero = Cutoff (micros_of timeout)
reset_peer_op timeout (suc after) = Halt None (suc after) (end.Reset (micros_of timeout))

-- the law: every byte leaves before the instant of the reset, or so many bytes pass, or all that came
abbrev pub ResetPeerLaw : ℕ → ℕ → List Item → List Item → Type 0
ResetPeerLaw timeout zero items given = All (λ t. t < 1000 * timeout) (table given)
ResetPeerLaw timeout (suc after) items given = length (table given) ≡ min (suc after) (arrived items)

-- what a reset_peer is
abbrev pub reset_peer_meaning : ℕ → ℕ → Meaning
reset_peer_meaning timeout after = record {
  description = reset_peer_description timeout after;
  with_values = reset_peer_of;
  gives = λ words. reset_peer_gives timeout after;
  op = λ place. reset_peer_op timeout after;
  law = ResetPeerLaw timeout after;
}
