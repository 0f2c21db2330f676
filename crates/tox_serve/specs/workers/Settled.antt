-- What becomes of an open link that was taken out of its place.
use Rattle.std.specs.declared.alloc.Global.{Global}
use Rattle.std.specs.Prelude.{Box, ℕ, Option, Some, None}
use Rattle.slab.specs.Slab.{Slab, Updates, get}
use Rattle.tox_serve.specs.declared.link.end.LinkEnd.{LinkEnd}
use Rattle.tox_serve.specs.declared.workers.link_key.LinkKey.{LinkKey}
use Rattle.tox_serve.specs.declared.workers.link_state.LinkState.{LinkState}
use Rattle.tox_serve.specs.declared.workers.link_state.LinkState.TheVariants.{Naming, Lacking, Connecting, Open}
use Rattle.tox_serve.specs.declared.workers.links.Place.{Place}
use Rattle.tox_serve.specs.declared.workers.open_link.OpenLink.{OpenLink}
use Rattle.tox_serve.specs.workers.OpenLinks.{end_of}
use Rattle.tox_serve.specs.workers.Places.{freed, link_state_of, with_link_state}

-- a link, if it is open
abbrev pub open_of : {R : Type 0} → Option (LinkState R) → Option (Box (OpenLink R) Global)
open_of None = None
open_of (Some (Naming client)) = None
open_of (Some (Lacking lacking)) = None
open_of (Some (Connecting connecting)) = None
open_of (Some (Open link)) = Some link

-- the open link that a key names
abbrev pub open_at : {R : Type 0} → LinkKey → Slab (Place R) → Option (Box (OpenLink R) Global)
open_at key places = open_of (link_state_of key.generation (get places key.slot))

-- the place of a link that ended so is free, and one that goes on is back in it
abbrev pub settled_place : {R : Type 0} → Option LinkEnd → ℕ → Box (OpenLink R) Global → Option (Place R) → Option (Place R)
settled_place None generation link place = with_link_state generation (Some (Open link)) place
settled_place (Some end) generation link place = freed generation place

-- the link of a key is closed if it has ended, and else back in its place
abbrev pub IsSettled : {R : Type 0} → LinkKey → Box (OpenLink R) Global → (old new : Slab (Place R)) → Type 0
IsSettled key link old new = Updates old new key.slot (settled_place (end_of link.value) key.generation link (get old key.slot))
