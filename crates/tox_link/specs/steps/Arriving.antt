-- What arrived at a core, and what was noted of it.
use Rattle.std.specs.Prelude.{◌≡◌, ℕ, ◌≤◌, Bool, List, Option}
use Rattle.tox_link.specs.declared.notes.LinkEvent.{LinkEvent}
use Rattle.tox_link.specs.link_core.Core.{CoreView, core_position}
use Rattle.tox_link.specs.log.Carried.{KeepsCarried}
use Rattle.tox_link.specs.log.Events.{with_events}
use Rattle.tox_link.specs.log.Log.{has_source_end}

-- so many bytes have arrived at a core afterwards, its source has ended or not, its next slice starts where it did, and its cuts are
-- counted on
pub record TakesIn (old new : CoreView) (bytes : ℕ) (ended : Bool) : Type 0 where
  pub bytes_are : new.bytes ≡ bytes
  pub ended_is : new.ended ≡ ended
  pub position : core_position new ≡ core_position old
  pub cuts : old.runner.cuts ≤ new.runner.cuts

-- these events were noted of a step of a core, which is carried on with them; the source's end is among them or not
pub record CarriesOn (reported : ℕ → Type 0) (before after : Option (List LinkEvent)) (old new : CoreView) (has_end : Bool) : Type 0 where
  pub more : List LinkEvent
  pub noted : after ≡ with_events before more
  pub keeps : KeepsCarried reported old more new
  pub end : has_source_end more ≡ has_end
