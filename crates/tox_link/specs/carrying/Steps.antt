-- What a step of a link's writer did to its log.
use Rattle.std.specs.Prelude.{◌≡◌, ℕ, Bool, List, Option}
use Rattle.tox_link.specs.declared.carrying.writer_side.WriterSide.{WriterSide}
use Rattle.tox_link.specs.declared.link_fault.LinkFault.{LinkFault}
use Rattle.tox_link.specs.declared.notes.LinkEvent.{LinkEvent}
use Rattle.tox_link.specs.Hangups.{IsResetAt}
use Rattle.tox_link.specs.log.Carried.{ReadsOn}
use Rattle.tox_link.specs.log.Events.{with_events}
use Rattle.tox_link.specs.log.Logged.{CutsOff, CutsOffFrom, KeepsLogged, LogsFrom}
use Rattle.tox_link.specs.Reports.{IsFaultAt}

-- these events were noted of a step of a link, which keeps its log with them
pub record NotesOn (reported : ℕ → Type 0) (before after : Option (List LinkEvent)) (old new : WriterSide) : Type 0 where
  pub more : List LinkEvent
  pub noted : after ≡ with_events before more
  pub keeps : KeepsLogged reported old more new

-- these events were noted since a link began, and are its log
pub record NotesAll (reported : ℕ → Type 0) (before after : Option (List LinkEvent)) (old new : WriterSide) : Type 0 where
  pub log : List LinkEvent
  pub noted : after ≡ with_events before log
  pub logs : LogsFrom reported old log new

-- a step of a link broke off by this fault and noted nothing
pub record StopsUnnoted (reported : ℕ → Type 0) (before after : Option (List LinkEvent)) (old new : WriterSide) (writer_failed : Bool) (fault : LinkFault) :
    Type 0 where
  pub at : IsFaultAt new.written writer_failed fault
  pub cuts : CutsOff reported old new.written
  pub reads : ReadsOn reported old.core.latest new.core.latest
  pub unnoted : after ≡ before

-- a link broke off by this fault: its log is cut off there, and none of it is above the last reading
pub record StopsAfter (reported : ℕ → Type 0) (before after : Option (List LinkEvent)) (old new : WriterSide) (writer_failed : Bool) (fault : LinkFault) : Type
    0 where
  pub at : IsFaultAt new.written writer_failed fault
  pub log : List LinkEvent
  pub noted : after ≡ with_events before log
  pub cuts : CutsOffFrom reported old log new.written
  pub reset : IsResetAt reported log new.core.latest
