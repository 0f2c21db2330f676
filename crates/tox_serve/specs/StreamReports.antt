-- What a link tells that was carried by threads.
use Rattle.std.specs.Prelude.{◌≡◌, ◌⊎◌, ℕ, List, Option, Result, Ok, Err}
use Rattle.tox_time.specs.Time.{IsInstant}
use Rattle.tox_time.specs.declared.streams.ending.Ending.{Ending}
use Rattle.tox_time.specs.declared.streams.item.Item.{Item}
use Rattle.tox_time.specs.declared.streams.stream.Stream.{Stream}
use Rattle.tox_compile.specs.Meaning.{means}
use Rattle.tox_link.specs.declared.link_fault.LinkFault.{LinkFault}
use Rattle.tox_link.specs.declared.link_report.TimedReport.{TimedReport}
use Rattle.tox_link.specs.declared.notes.LinkEvent.{LinkEvent}
use Rattle.tox_link.specs.declared.ring.message.ReadEnd.{ReadEnd}
use Rattle.tox_link.specs.Reports.{ReportsAt}
use Rattle.tox_link.specs.log.Logged.{IsCutOff}
use Rattle.tox_log.specs.declared.last_line.BreakCause.{BreakCause}
use Rattle.tox_log.specs.declared.last_line.BreakCause.TheVariants as CauseOf
use Rattle.tox_sockets.specs.declared.abort_cause.AbortCause.{AbortCause}
use Rattle.tox_serve.specs.declared.link.course.Course.{Course}
use Rattle.tox_serve.specs.declared.link.end.Carried.{Carried}
use Rattle.tox_serve.specs.declared.link.end.StreamEnd.{StreamEnd}
use Rattle.tox_serve.specs.declared.link.end.StreamEnd.TheVariants as EndOf
use Rattle.tox_serve.specs.link.LinkEnds.{carried_before, carried_until_end}

-- what a stream carried, by what its link reports or by its fault
abbrev pub carried_after : {S : Type 0} → Stream → Option AbortCause → Result (TimedReport S) LinkFault → Carried
carried_after its aborted (Ok timed) =
    carried_until_end its timed.report.written timed.reading timed.report.ending aborted
carried_after its aborted (Err fault) = carried_before its fault

-- a link ended so at a reading of its clock, after so many written bytes, and said what its plan means for what it heard
pub record EndsSo (meaning : List Item → List Item) (bytes reading : ℕ) (ending : Ending) : Type 0 where
  pub log : List LinkEvent
  pub taken : ℕ
  pub source : Option ReadEnd
  pub reports : ReportsAt meaning (λ t. IsInstant t) log taken bytes ending source reading

-- a link broke off after so many written bytes, no more than its plan means for what it heard
pub record BreaksSo (meaning : List Item → List Item) (bytes : ℕ) : Type 0 where
  pub log : List LinkEvent
  pub cut_off : IsCutOff meaning (λ t. IsInstant t) bytes log

-- a stream's plan ended it so after so many written bytes, once its link was aborted
abbrev pub EndsAborted : (List Item → List Item) → ℕ → Type 0
EndsAborted meaning bytes = (reading : ℕ) × (ending : Ending) × EndsSo meaning bytes reading ending

-- a stream broke after so many bytes: it broke off, or its plan ended it once its link was aborted
abbrev pub BreaksBy : (List Item → List Item) → ℕ → BreakCause → Type 0
BreaksBy meaning bytes CauseOf.Write = BreaksSo meaning bytes
BreaksBy meaning bytes CauseOf.Memory = BreaksSo meaning bytes ⊎ EndsAborted meaning bytes
BreaksBy meaning bytes CauseOf.Thread = BreaksSo meaning bytes ⊎ EndsAborted meaning bytes
BreaksBy meaning bytes CauseOf.Upstream = ⊥
BreaksBy meaning bytes CauseOf.Stopped = EndsAborted meaning bytes

-- a stream ended so after so many bytes
abbrev pub StreamEndsSo : (List Item → List Item) → ℕ → StreamEnd → Type 0
StreamEndsSo meaning bytes (EndOf.Ended reading ending) = EndsSo meaning bytes reading ending
StreamEndsSo meaning bytes (EndOf.Broken cause) = BreaksBy meaning bytes cause

-- a stream is reported as it was carried under its course
pub record IsReportOf (course : Course) (carried : Carried) : Type 0 where
  pub its : carried.stream ≡ course.stream
  pub end : StreamEndsSo (means course.plan course.words) carried.bytes carried.end
