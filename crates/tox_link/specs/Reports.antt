-- What a link reports.
use Rattle.std.specs.Prelude.{◌≡◌, ◌≢◌, ℕ, ◌≤◌, Bool, true, false, List, length, take, Option, Some, None}
use Rattle.std.specs.Io.KnownBytes.{append_known, prepend_known}
use Rattle.tox_time.specs.declared.streams.item.Item.{Item}
use Rattle.tox_time.specs.declared.streams.ending.Ending.{Ending}
use Rattle.tox_time.specs.declared.streams.ending.Ending.TheVariants.{StillOpen, Closed as ClosedAt}
use Rattle.tox_time.specs.streams.Stream.{IsStreamFrom}
use Rattle.tox_time.specs.streams.Table.{SameResult, table, slices_table, ending}
use Rattle.tox_link.specs.declared.link_fault.LinkFault.{LinkFault}
use Rattle.tox_link.specs.declared.link_fault.LinkFault.TheVariants.{OutOfMemory, SpawnRefused, WriteFault}
use Rattle.tox_link.specs.declared.ring.message.ReadEnd.{ReadEnd}
use Rattle.tox_link.specs.declared.notes.LinkEvent.{LinkEvent}
use Rattle.tox_link.specs.log.Log.{heard_from, heard, heard_bytes, said, IsFaithful}
use Rattle.tox_link.specs.log.Carried.{IsBy}
use Rattle.tox_link.specs.log.Logged.{IsReached}

-- how many bytes were written before the fault
abbrev pub written_before : LinkFault → ℕ
written_before (OutOfMemory written) = written
written_before (SpawnRefused written) = written
written_before (WriteFault written) = written

-- whether it is the writer that failed
abbrev pub is_write_fault : LinkFault → Bool
is_write_fault (OutOfMemory written) = false
is_write_fault (SpawnRefused written) = false
is_write_fault (WriteFault written) = true

-- a fault behind so many written bytes, of a link whose reader's thread was started: `WriteFault` exactly where the writer has failed
pub record IsFaultAt (written : ℕ) (writer_failed : Bool) (fault : LinkFault) : Type 0 where
  pub count : written_before fault ≡ written
  pub cause : writer_failed ≡ is_write_fault fault
  pub started : (n : ℕ) → fault ≢ SpawnRefused n

-- the source's end was heard where the link learnt in time why the reading ended, and else none
abbrev pub HeardSo : Option ReadEnd → Ending → Type 0
HeardSo (Some end) heard_end = (t : ℕ) × (heard_end ≡ ClosedAt t)
HeardSo None heard_end = heard_end ≡ StillOpen

-- whatever follows what was heard from an instant on, the plan means the same
abbrev pub IsSettledFrom : (List Item → List Item) → ℕ → List LinkEvent → Type 0
IsSettledFrom means now log = (rest : List Item) → IsStreamFrom (heard_bytes log) now rest → SameResult (means (heard_from 0 log rest)) (means (heard log))

-- a link with this log took and wrote so many bytes, and ended so and with its source so: it said all that the plan means for
-- what was heard, and the clock reported this instant, at or past its ending and each reading, from which on nothing changes it
pub record ReportsAt (means : List Item → List Item) (reported : ℕ → Type 0) (log : List LinkEvent) (taken written : ℕ) (last : Ending)
    (source : Option ReadEnd) (now : ℕ) : Type 0 where
  pub faithful : IsFaithful means reported log
  pub whole : slices_table (said log) ≡ table (means (heard log))
  pub ends : ending (means (heard log)) ≡ last
  pub took : heard_bytes log ≡ taken
  pub wrote : length (slices_table (said log)) ≡ written
  pub says : reported now
  pub by : IsBy now log
  pub reached : IsReached now last
  pub settled : IsSettledFrom means now log
  pub hears : HeardSo source (ending (heard log))

-- so many of these bytes were written, which are the first that there were to give
pub record WritesFirst (given before after : Option (List ℕ)) (bytes : List ℕ) (written : ℕ) : Type 0 where
  pub left : Option (List ℕ)
  pub gave : given ≡ prepend_known bytes left
  pub few : written ≤ length bytes
  pub wrote : after ≡ append_known before (take written bytes)
