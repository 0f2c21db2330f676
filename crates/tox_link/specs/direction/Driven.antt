-- A direction that is driven: what a step starts from, what it did, and what it answers.
use Rattle.std.specs.Prelude.{◌≡◌, ◌≢◌, ℕ, ◌+◌, ◌≤◌, ◌⊎◌, Bool, true, false, if◌then◌else◌, List, [], ◌∷◌, length, Option, IfSome, Result, Ok, Err}
use Rattle.std.specs.Io.KnownBytes.{prepend_known}
use Rattle.tox_time.specs.declared.streams.ending.Ending.{Ending}
use Rattle.tox_time.specs.declared.streams.item.Item.{Item}
use Rattle.tox_link.specs.declared.direction.polled_link.PolledLink.{PolledLink}
use Rattle.tox_link.specs.declared.direction.progress.Progress.{Progress}
use Rattle.tox_link.specs.declared.direction.progress.Progress.TheVariants.{Waits, Again, Ended}
use Rattle.tox_link.specs.declared.direction.unwritten.Unwritten.{Unwritten}
use Rattle.tox_link.specs.declared.link_core.act.Act.{Act}
use Rattle.tox_link.specs.declared.link_core.act.Act.TheVariants.{Write, WaitUntil, WaitForInput, End}
use Rattle.tox_link.specs.declared.link_fault.LinkFault.{LinkFault}
use Rattle.tox_link.specs.declared.notes.LinkEvent.{LinkEvent}
use Rattle.tox_link.specs.link_core.Acts.{Says, wait_act}
use Rattle.tox_link.specs.link_core.Core.{core_position}
use Rattle.tox_link.specs.log.Events.{with_events}
use Rattle.tox_link.specs.log.Logged.{HasEnded}
use Rattle.tox_link.specs.ring.Messages.{EndsFor}
use Rattle.tox_link.specs.steps.Held.{MayTake}
use Rattle.tox_link.specs.Sources.{read_end_of}
use Rattle.tox_link.specs.direction.Follows.{AreBegun, IsHeld, Follows, Drives}

-- what the ends and the notes of a direction tell: the bytes still to be read, those written, and the events
pub record EndsView : Type 0 where
  pub remaining : Option (List ℕ)
  pub written : Option (List ℕ)
  pub events : Option (List LinkEvent)

abbrev pub ends_view : Option (List ℕ) → Option (List ℕ) → Option (List LinkEvent) → EndsView
ends_view remaining written events = record { remaining = remaining; written = written; events = events }

-- a direction at a clock with these readings and a source that has so much left: each slice that is being written was given at a reading,
-- and the source works while it is read, and ended as the direction says, whatever number of reads was allowed
pub record IsReady (reported : ℕ → Type 0) (link : PolledLink) (left : Option (List ℕ)) (failed : Bool) : Type 0 where
  pub held : IsHeld link
  pub read : (link.core.latest ≡ 0) ⊎ reported link.core.latest
  pub begun : AreBegun reported link.unwritten.items
  pub working : link.ended ≡ false → failed ≡ false
  pub cause : IfSome (read_end_of link.source) (λ end. (reads count : ℕ) → EndsFor end reads count left failed)

-- nothing more is read exactly where the core has heard the source's end
abbrev pub EndsWithCore : PolledLink → Type 0
EndsWithCore link = link.ended ≡ link.core.ended

-- how far a direction is: how much of its output is found and by how many cuts, how much is written, and whether it reads no more
abbrev pub done_of : PolledLink → ℕ
done_of link = core_position link.core + link.core.runner.cuts + link.written + (if link.ended then 1 else 0)

-- how many bytes a direction took and wrote
abbrev pub moved_of : PolledLink → ℕ
moved_of link = link.core.bytes + link.written

-- what a direction has done stays done
pub record KeepsDone (old new : PolledLink) : Type 0 where
  pub found : core_position old.core ≤ core_position new.core
  pub cuts : old.core.runner.cuts ≤ new.core.runner.cuts
  pub written : old.written ≤ new.written
  pub ended : (if old.ended then 1 else 0) ≤ (if new.ended then 1 else 0)

-- these bytes were read and no more were taken, these events were noted, and these bytes are written: at least so many steps were
-- taken
pub record Drove (least : ℕ) (reported : ℕ → Type 0) (old : PolledLink) (before : EndsView) (new : PolledLink) (after : EndsView) : Type 0 where
  pub bytes : List ℕ
  pub more : List LinkEvent
  pub read : before.remaining ≡ prepend_known bytes after.remaining
  pub noted : after.events ≡ with_events before.events more
  pub follows : Drives reported old before.written bytes more new after.written
  pub kept : KeepsDone old new
  pub taken : new.core.bytes ≤ old.core.bytes + length bytes
  pub work : done_of old + least ≤ done_of new + length bytes + length more

-- the slice that an answer gives to be written, with the reading at which it was given
abbrev pub begun_by : Act → ℕ → List Unwritten
begun_by (Write slice) now = record { slice = slice; reading = now } ∷ []
begun_by (WaitUntil instant) now = []
begun_by WaitForInput now = []
begun_by (End last) now = []

-- how many steps an answer counts for
abbrev pub steps_of_act : Act → ℕ
steps_of_act (Write slice) = 1
steps_of_act (WaitUntil instant) = 0
steps_of_act WaitForInput = 0
steps_of_act (End last) = 0

-- how many steps it is where something moved
abbrev pub steps_of_move : {E : Type 0} → Result Bool E → ℕ
steps_of_move (Ok true) = 1
steps_of_move (Ok false) = 0
steps_of_move (Err fault) = 0

-- a direction waits, at most until an instant: where a slice is being written its sink waits, and the instant is when the
-- sink gives up; else the core says that it waits at a reading that the clock reported, and input may not be taken or isn't there
pub record WaitsFor (reported : ℕ → Type 0) (link : PolledLink) (source_waits sink_waits : Bool) (due until : Option ℕ) : Type 0 where
  pub slice : link.unwritten.items ≢ [] → (sink_waits ≡ true) × (until ≡ due)
  pub idle : link.unwritten.items ≡ [] → reported link.core.latest × Says link.core link.core.latest (wait_act until)
      × ((¬ MayTake link.core link.window link.ended) ⊎ (source_waits ≡ true))

-- a direction has ended so, and no slice is being written
pub record IsAtEnd (reported : ℕ → Type 0) (link : PolledLink) (ending : Ending) : Type 0 where
  pub idle : link.unwritten.items ≡ []
  pub ended : HasEnded reported link.core link.ended ending

-- what an answer says of the direction
abbrev pub IsProgress : (ℕ → Type 0) → PolledLink → Bool → Bool → Option ℕ → Progress → Type 0
IsProgress reported link source_waits sink_waits due (Waits until) = WaitsFor reported link source_waits sink_waits due until
IsProgress reported link source_waits sink_waits due Again = Unit {0}
IsProgress reported link source_waits sink_waits due (Ended ending) = IsAtEnd reported link ending

-- how many steps an answer needs, where its budget was so many
abbrev pub steps_of : ℕ → Result Progress LinkFault → ℕ
steps_of budget (Ok (Waits until)) = 0
steps_of budget (Ok Again) = budget
steps_of budget (Ok (Ended ending)) = 0
steps_of budget (Err fault) = 0

-- what a direction did since it was new: under a plan that means this, these events were noted and these bytes came, where
-- so much is left of what was given, and what was written is these bytes behind those of before
pub record History (reported : ℕ → Type 0) (link : PolledLink) (left : Option (List ℕ)) : Type 0 where
  pub means : List Item → List Item
  pub log : List LinkEvent
  pub came : List ℕ
  pub given : Option (List ℕ)
  pub before : Option (List ℕ)
  pub after : Option (List ℕ)
  pub read : given ≡ prepend_known came left
  pub follows : Follows means reported link log came before after
