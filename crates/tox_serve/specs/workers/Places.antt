-- What a slot has for a link's key.
use Rattle.std.specs.Prelude.{ℕ, ◌^◌, nat_eq, nat_lt, if◌then◌else◌, Option, Some, None}
use Rattle.tox_serve.specs.declared.workers.link_key.LinkKey.{LinkKey}
use Rattle.tox_serve.specs.declared.workers.links.Place.{Place}
use Rattle.tox_serve.specs.declared.workers.link_state.LinkState.{LinkState}

-- a link is in a slot whose place is of its generation
abbrev pub link_state_of : {R : Type 0} → ℕ → Option (Place R) → Option (LinkState R)
link_state_of generation None = None
link_state_of generation (Some place) = if nat_eq place.generation generation then place.state else None

-- the place of that generation has another state from now on, and any other stays as it is
abbrev pub with_link_state : {R : Type 0} → ℕ → Option (LinkState R) → Option (Place R) → Option (Place R)
with_link_state generation state None = None
with_link_state generation state (Some place) = if nat_eq place.generation generation then Some (record place { state = state }) else Some place

-- the place of that generation is free from now on, and any other stays as it is
abbrev pub freed : {R : Type 0} → ℕ → Option (Place R) → Option (Place R)
freed generation None = None
freed generation (Some place) = if nat_eq place.generation generation then None else Some place

-- the key of the link in a slot, if a key has room for the slot
abbrev pub key_at : {R : Type 0} → ℕ → Option (Place R) → Option LinkKey
key_at slot None = None
key_at slot (Some place) = if nat_lt slot (2 ^ 30) then Some (record { slot = slot; generation = place.generation }) else None
