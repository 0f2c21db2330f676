-- A stream is reported as it was carried.
use Rattle.std.proofs.Common.{ℕ, List, Option, Some, None, Result, Ok, Err, IfOk, IfErr, inl, inr, refl}
use Rattle.tox_time.specs.declared.streams.item.Item.{Item}
use Rattle.tox_time.specs.Time.{IsInstant}
use Rattle.tox_compile.specs.Meaning.{means}
use Rattle.tox_link.specs.declared.link_fault.LinkFault.{LinkFault}
use Rattle.tox_link.specs.declared.link_fault.LinkFault.TheVariants.{OutOfMemory, SpawnRefused, WriteFault}
use Rattle.tox_link.specs.declared.link_report.TimedReport.{TimedReport}
use Rattle.tox_link.specs.carrying.Results.{BreaksAt, Carries, FarEnd, NearEnd}
use Rattle.tox_link.specs.Sources.{read_end_of}
use Rattle.tox_sockets.specs.declared.abort_cause.AbortCause.{AbortCause}
use Rattle.tox_sockets.specs.declared.abort_cause.AbortCause.TheVariants.{Stopped, Memory, Thread}
use Rattle.tox_serve.specs.declared.link.course.Course.{Course}
use Rattle.tox_serve.specs.StreamReports.{BreaksBy, EndsAborted, IsReportOf, carried_after}
use Rattle.tox_serve.specs.link.LinkEnds.{cause_of}

-- a stream that its plan has ended is broken by an abort of its link
aborted-so : (meaning : List Item → List Item) (bytes : ℕ) (abort : AbortCause) → EndsAborted meaning bytes
    → BreaksBy meaning bytes (cause_of abort)
aborted-so meaning bytes Stopped ended = ended
aborted-so meaning bytes Memory ended = inr ended
aborted-so meaning bytes Thread ended = inr ended

pub report_of : {S : Type 0} (course : Course) (aborted : Option AbortCause) (done : Result (TimedReport S) LinkFault)
    (reads : ℕ) (given : NearEnd) (left : TimedReport S → NearEnd) (before after : FarEnd)
    → IfOk done (λ timed. Carries (means course.plan course.words) (λ t. IsInstant t) reads given (left timed) before after
    timed.report.taken timed.report.written timed.report.ending (read_end_of timed.report.source) timed.reading)
    → IfErr done (BreaksAt (means course.plan course.words) (λ t. IsInstant t) given before after)
    → IsReportOf course (carried_after course.stream aborted done)
report_of course (Some abort) (Ok timed) reads given left before after carried broken = record {
  its = refl;
  end = aborted-so (means course.plan course.words) timed.report.written abort
      (timed.reading, timed.report.ending, record { log = carried.log; taken = _; source = _; reports = carried.reports });
}
report_of course None (Ok timed) reads given left before after carried broken = record {
  its = refl;
  end = record { log = carried.log; taken = _; source = _; reports = carried.reports };
}
report_of course aborted (Err (OutOfMemory written)) reads given left before after carried broken =
    record { its = refl; end = inl (record { log = broken.log; cut_off = broken.cut_off }) }
report_of course aborted (Err (SpawnRefused written)) reads given left before after carried broken =
    record { its = refl; end = inl (record { log = broken.log; cut_off = broken.cut_off }) }
report_of course aborted (Err (WriteFault written)) reads given left before after carried broken =
    record { its = refl; end = record { log = broken.log; cut_off = broken.cut_off } }
