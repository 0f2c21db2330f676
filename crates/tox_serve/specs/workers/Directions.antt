-- How far a direction of a link is, and what changes it.
use Rattle.std.specs.Prelude.{◌≡◌, ℕ, nat_eq, Bool, false, Option, Some, None, if◌then◌else◌}
use Rattle.std.proofs.Props.{props}
use Rattle.tox_time.specs.declared.streams.stream.Stream.{Stream}
use Rattle.tox_link.specs.declared.link_fault.LinkFault.TheVariants.{OutOfMemory}
use Rattle.tox_serve.specs.declared.link.end.Carried.{Carried}
use Rattle.tox_serve.specs.link.LinkEnds.{carried_before}
use Rattle.tox_serve.specs.declared.workers.open_direction.DirectionState.{DirectionState}
use Rattle.tox_serve.specs.declared.workers.open_direction.DirectionState.TheVariants.{Going, Ended, Driven}

-- what goes on or has ended is of this stream
abbrev pub IsOf : {R : Type 0} → Stream → DirectionState R → Type 0
IsOf its (Going flow) = flow.stream ≡ its
IsOf its (Ended ended) = ended.carried.stream ≡ its
IsOf its Driven = Unit {0}

pub IsOf-prop : {R : Type 0} (its : Stream) (state : DirectionState R) → IsProp (IsOf its state)
IsOf-prop its (Going flow) = Prim.hlevel props
IsOf-prop its (Ended ended) = Prim.hlevel props
IsOf-prop its Driven = Prim.hlevel props

-- what a direction carried, once it has ended
abbrev pub carried_of : {R : Type 0} → DirectionState R → Option Carried
carried_of (Going flow) = None
carried_of (Ended ended) = Some ended.carried
carried_of Driven = None

-- a direction that goes on is broken off, out of memory, behind the bytes that it has written
abbrev pub IsBrokenOffFrom : {R : Type 0} → Stream → DirectionState R → DirectionState R → Type 0
IsBrokenOffFrom its (Going flow) new = carried_of new ≡ Some (carried_before its (OutOfMemory flow.link.value.written))
IsBrokenOffFrom its (Ended ended) new = new ≡ Ended ended
IsBrokenOffFrom its Driven new = new ≡ Driven

-- whether the earliest timer of a direction is due at an instant
abbrev pub is_armed : ℕ → Option ℕ → Bool
is_armed due None = false
is_armed due (Some armed) = nat_eq armed due

-- the timer of a direction that is left once one is over
abbrev pub disarmed : ℕ → Option ℕ → Option ℕ
disarmed due None = None
disarmed due (Some armed) = if nat_eq armed due then None else Some armed
