-- What a link that was carried did between its ends.
use Rattle.std.specs.Prelude.{◌≡◌, ℕ, Bool, List, length, Option, IfSome}
use Rattle.tox_time.specs.declared.streams.ending.Ending.{Ending}
use Rattle.tox_time.specs.declared.streams.item.Item.{Item}
use Rattle.tox_link.specs.declared.link_fault.LinkFault.{LinkFault}
use Rattle.tox_link.specs.declared.notes.LinkEvent.{LinkEvent}
use Rattle.tox_link.specs.declared.ring.message.Message.{Message}
use Rattle.tox_link.specs.declared.ring.message.ReadEnd.{ReadEnd}
use Rattle.tox_link.specs.log.Events.{with_events}
use Rattle.tox_link.specs.log.Log.{SaysHeard}
use Rattle.tox_link.specs.log.Logged.{IsCutOff}
use Rattle.tox_link.specs.ring.Messages.{AreFirstOf, HandsOn, EndsFor}
use Rattle.tox_link.specs.Hangups.{Call, HangsUp, BreaksOff}
use Rattle.tox_link.specs.Reports.{ReportsAt, WritesFirst, written_before}

-- what a link's far end tells: the bytes written, the events noted, and how it was hung up
pub record FarEnd : Type 0 where
  pub written : Option (List ℕ)
  pub events : Option (List LinkEvent)
  pub calls : Option (List Call)

abbrev pub far_end : Option (List ℕ) → Option (List LinkEvent) → Option (List Call) → FarEnd
far_end written events calls = record { written = written; events = events; calls = calls }

-- what a reader has still to give, and whether it has failed
pub record NearEnd : Type 0 where
  pub remaining : Option (List ℕ)
  pub failed : Bool

abbrev pub near_end : Option (List ℕ) → Bool → NearEnd
near_end remaining failed = record { remaining = remaining; failed = failed }

-- a link carried bytes of a reader that was read at most so many times, and ended so at a reading of the clock: its log reports that,
-- what it wrote are the first bytes that there were to give, and it was hung up once
pub record Carries (means : List Item → List Item) (reported : ℕ → Type 0) (reads : ℕ) (given left : NearEnd) (before after : FarEnd) (taken written : ℕ)
    (ending : Ending) (source : Option ReadEnd) (reading : ℕ) : Type 0 where
  pub log : List LinkEvent
  pub noted : after.events ≡ with_events before.events log
  pub reports : ReportsAt means reported log taken written ending source reading
  pub of_heard : SaysHeard log
  pub bytes : List ℕ
  pub took : length bytes ≡ taken
  pub wrote : WritesFirst given.remaining before.written after.written bytes written
  pub source_end : IfSome source (λ end. HandsOn given.remaining bytes end left.remaining × EndsFor end reads (length bytes) left.remaining left.failed)
  pub messages : List Message
  pub first : AreFirstOf given.remaining reads messages left.remaining left.failed
  pub hung_up : HangsUp before.calls after.calls messages ending source

-- a link broke off by this fault: its log is cut off there, what it wrote are the first bytes that there were to give, and it was
-- hung up by a reset, or broke off before it began
pub record BreaksAt (means : List Item → List Item) (reported : ℕ → Type 0) (given : NearEnd) (before after : FarEnd) (fault : LinkFault) : Type 0 where
  pub log : List LinkEvent
  pub noted : after.events ≡ with_events before.events log
  pub cut_off : IsCutOff means reported (written_before fault) log
  pub bytes : List ℕ
  pub wrote : WritesFirst given.remaining before.written after.written bytes (written_before fault)
  pub reset : BreaksOff reported log before.calls after.calls fault
