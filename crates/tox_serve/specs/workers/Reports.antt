-- What a report of the system, or a log, changes at a direction.
use Rattle.std.specs.Prelude.{◌≡◌, ℕ, Bool, true, false, not, ◌&&◌, ◌||◌, List, Option, if◌then◌else◌}
use Rattle.tox_sockets.specs.declared.ready_sink.ReadySink.{ReadySink}
use Rattle.tox_sockets.specs.declared.ready_source.ReadySource.{ReadySource}
use Rattle.tox_serve.specs.declared.workers.flow.Flow.{Flow}
use Rattle.tox_serve.specs.declared.workers.open_direction.DirectionState.{DirectionState}
use Rattle.tox_serve.specs.declared.workers.open_direction.DirectionState.TheVariants.{Going, Ended, Driven}
use Rattle.tox_serve.specs.declared.workers.open_direction.OpenDirection.{OpenDirection}
use Rattle.tox_serve.specs.declared.workers.socket_event.SocketEvent.{SocketEvent}

-- a source that may give something, and sends no more or has sent urgent data if that was reported now or before
abbrev pub reported_source : SocketEvent → ReadySource → ReadySource
reported_source event source =
    if event.readable
    then record source { readable = true; closing = source.closing || event.closing; urgent = source.urgent || event.urgent }
    else source

-- a target that may take something
abbrev pub reported_sink : {R : Type 0} → SocketEvent → ReadySink R → ReadySink R
reported_sink event sink = if event.writable then record sink { writable = true } else sink

-- a direction goes on at the same step machine, with these ends and notes
pub record GoesOnWithEnds {R : Type 0} (old : Flow R) (source : ReadySource) (sink : ReadySink R) (notes : Option (List ℕ)) (state : DirectionState R) : Type 0
  where
    pub flow : Flow R
    pub going : state ≡ Going flow
    pub its : flow.stream ≡ old.stream
    pub link : flow.link ≡ old.link
    pub its_source : flow.source ≡ source
    pub its_sink : flow.sink ≡ sink
    pub its_notes : flow.notes ≡ notes

-- a direction that goes on is noted so
abbrev pub IsNotedSo : {R : Type 0} → Option (List ℕ) → DirectionState R → DirectionState R → Type 0
IsNotedSo notes (Going flow) new = GoesOnWithEnds flow flow.source flow.sink notes new
IsNotedSo notes (Ended ended) new = new ≡ Ended ended
IsNotedSo notes Driven new = new ≡ Driven

-- the source of a direction that goes on was reported
abbrev pub HasSourceAfter : {R : Type 0} → SocketEvent → DirectionState R → DirectionState R → Type 0
HasSourceAfter event (Going flow) new = GoesOnWithEnds flow (reported_source event flow.source) flow.sink flow.notes new
HasSourceAfter event (Ended ended) new = new ≡ Ended ended
HasSourceAfter event Driven new = new ≡ Driven

-- whether it is to be driven: it goes on, and may read
abbrev pub drives_source : {R : Type 0} → SocketEvent → DirectionState R → Bool
drives_source event (Going flow) = event.readable
drives_source event (Ended ended) = false
drives_source event Driven = false

-- the target of a direction that goes on was reported
abbrev pub HasTargetAfter : {R : Type 0} → SocketEvent → DirectionState R → DirectionState R → Type 0
HasTargetAfter event (Going flow) new = GoesOnWithEnds flow flow.source (reported_sink event flow.sink) flow.notes new
HasTargetAfter event (Ended ended) new = new ≡ Ended ended
HasTargetAfter event Driven new = new ≡ Driven

-- whether it is to be driven: it goes on, and may write by now, or its target is gone
abbrev pub drives_target : {R : Type 0} → SocketEvent → DirectionState R → Bool
drives_target event (Going flow) = event.writable && (not flow.sink.writable || event.gone)
drives_target event (Ended ended) = false
drives_target event Driven = false

-- a direction whose source was reported, and whether it is to be driven
pub record IsAfterSource {R : Type 0} (event : SocketEvent) (old new : OpenDirection R) (answer : Bool) : Type 0 where
  pub state : HasSourceAfter event old.state new.state
  pub armed : new.armed ≡ old.armed
  pub turn : new.has_turn ≡ old.has_turn
  pub drives : answer ≡ drives_source event old.state

-- a direction whose target was reported, and whether it is to be driven
pub record IsAfterTarget {R : Type 0} (event : SocketEvent) (old new : OpenDirection R) (answer : Bool) : Type 0 where
  pub state : HasTargetAfter event old.state new.state
  pub armed : new.armed ≡ old.armed
  pub turn : new.has_turn ≡ old.has_turn
  pub drives : answer ≡ drives_target event old.state
