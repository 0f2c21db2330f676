-- What a direction that was driven has done.
use Rattle.std.specs.Prelude.{◌≡◌, ℕ, None, Result, Ok, Err}
use Rattle.tox_time.specs.Time.{IsInstant}
use Rattle.tox_time.specs.declared.streams.ending.Ending.{Ending}
use Rattle.tox_log.specs.declared.last_line.BreakCause.{BreakCause}
use Rattle.tox_log.specs.declared.last_line.BreakCause.TheVariants as CauseOf
use Rattle.tox_link.specs.declared.direction.polled_link.PolledLink.{PolledLink}
use Rattle.tox_link.specs.declared.direction.progress.Progress.{Progress}
use Rattle.tox_link.specs.declared.direction.progress.Progress.TheVariants.{Waits, Again, Ended as HasEnded}
use Rattle.tox_link.specs.declared.link_fault.LinkFault.{LinkFault}
use Rattle.tox_link.specs.direction.Driven.{Drove, IsAtEnd, WaitsFor, ends_view}
use Rattle.tox_serve.specs.declared.link.end.Carried.{Carried}
use Rattle.tox_serve.specs.declared.link.end.StreamEnd.{StreamEnd}
use Rattle.tox_serve.specs.declared.link.end.StreamEnd.TheVariants as EndOf
use Rattle.tox_serve.specs.declared.workers.flow.Flow.{Flow}
use Rattle.tox_serve.specs.declared.workers.open_direction.DirectionState.{DirectionState}
use Rattle.tox_serve.specs.declared.workers.open_direction.DirectionState.TheVariants.{Going, Ended, Driven}

-- one step machine was driven to another, at sockets that tell no bytes, by at least so many steps
abbrev pub DroveOn : ℕ → PolledLink → PolledLink → Type 0
DroveOn least old new =
    Drove least (λ t. IsInstant t) old (ends_view None None None) new (ends_view None None None)

-- a direction goes on, driven by at least so many steps
pub record ContinuesFlow {R : Type 0} (least : ℕ) (old new : Flow R) : Type 0 where
  pub its : new.stream ≡ old.stream
  pub drove : DroveOn least old.link.value new.link.value

-- what breaks a stream: nothing of the upstream, and a stop only once its plan has ended it. Whether a write did is known of its sink
abbrev pub IsBreakOf : PolledLink → BreakCause → Type 0
IsBreakOf link CauseOf.Write = Unit {0}
IsBreakOf link CauseOf.Memory = Unit {0}
IsBreakOf link CauseOf.Thread = Unit {0}
IsBreakOf link CauseOf.Upstream = ⊥
IsBreakOf link CauseOf.Stopped = (ending : Ending) × IsAtEnd (λ t. IsInstant t) link ending

-- how a stream ended whose step machine stands there, and its last reading of the clock
abbrev pub IsEndOf : PolledLink → StreamEnd → Type 0
IsEndOf link (EndOf.Ended reading ending) = (reading ≡ link.core.latest) × IsAtEnd (λ t. IsInstant t) link ending
IsEndOf link (EndOf.Broken cause) = IsBreakOf link cause

-- a direction is reported as it ended: the bytes that it has written, and its plan's ending
pub record HasEndedAs {R : Type 0} (old : Flow R) (carried : Carried) : Type 0 where
  pub its : carried.stream ≡ old.stream
  pub link : PolledLink
  pub drove : DroveOn 0 old.link.value link
  pub bytes : carried.bytes ≡ link.written
  pub end : IsEndOf link carried.end

-- a direction goes on so
abbrev pub IfGoing : {R : Type 0} → DirectionState R → (Flow R → Type 0) → Type 0
IfGoing (Going flow) P = P flow
IfGoing (Ended ended) P = ⊥
IfGoing Driven P = ⊥

-- a direction has ended, and is reported so
abbrev pub IfEnded : {R : Type 0} → DirectionState R → (Carried → Type 0) → Type 0
IfEnded (Going flow) P = ⊥
IfEnded (Ended ended) P = P ended.carried
IfEnded Driven P = ⊥

-- how far a direction is by what its drive answered: it waits for what its step machine waits for, goes on at once, or has ended
abbrev pub IsAdvanceOf : {R : Type 0} → Flow R → DirectionState R → Result Progress LinkFault → Type 0
IsAdvanceOf old new (Ok (Waits until)) = IfGoing new (λ flow. ContinuesFlow 0 old flow
    × WaitsFor (λ t. IsInstant t) flow.link.value flow.source.waits flow.sink.waits flow.sink.due until)
IsAdvanceOf old new (Ok Again) = IfGoing new (ContinuesFlow 32 old)
IsAdvanceOf old new (Ok (HasEnded ending)) = IfEnded new (HasEndedAs old)
IsAdvanceOf old new (Err fault) = IfEnded new (HasEndedAs old)
