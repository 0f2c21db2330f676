-- Directions that begin, and that a report changes.
use Rattle.std.proofs.Common.{◌≡◌, ℕ, Bool, false, List, Option, None, Result, refl, not, ◌&&◌, ◌||◌}
use Rattle.tox_serve.specs.declared.link.course.Course.{Course}
use Rattle.tox_link.specs.declared.direction.progress.Progress.{Progress}
use Rattle.tox_link.specs.declared.link_fault.LinkFault.{LinkFault}
use Rattle.tox_serve.specs.workers.Begun.{BeginsCourse, IsNewDirection}
use Rattle.tox_serve.specs.workers.Driven.{IsAdvanceOf}
use Rattle.tox_serve.specs.workers.Steps.{IsRunOf}
use Rattle.tox_serve.specs.workers.Reports.{GoesOnWithEnds, HasSourceAfter, HasTargetAfter, IsNotedSo, drives_source, drives_target, reported_sink}
use Rattle.tox_serve.specs.workers.Reports.{reported_source}
use Rattle.tox_serve.specs.declared.workers.flow.Flow.{Flow}
use Rattle.tox_serve.specs.declared.workers.open_direction.DirectionState.{DirectionState}
use Rattle.tox_serve.specs.declared.workers.open_direction.DirectionState.TheVariants.{Going}
use Rattle.tox_serve.specs.declared.workers.open_direction.OpenDirection.{OpenDirection}
use Rattle.tox_serve.specs.declared.workers.socket_event.SocketEvent.{SocketEvent}

module _ {R : Type 0} where
  pub new_direction : (course : Course) (closing : Bool) (direction : OpenDirection R) (flow : Flow R) → direction.state ≡ Going flow
      → direction.armed ≡ None → direction.has_turn ≡ false → BeginsCourse course closing flow → IsNewDirection course closing direction
  new_direction course closing direction flow going idle no_turn begins =
      record { flow = flow; going = going; idle = idle; no_turn = no_turn; begins = begins }

  pub noted_so : (notes : Option (List ℕ)) (old after : Flow R) (state : DirectionState R) → state ≡ Going old
      → GoesOnWithEnds old old.source old.sink notes (Going after) → IsNotedSo notes state (Going after)
  noted_so notes old after state is goes = rw is goes

  pub source_after : (event : SocketEvent) (old after : Flow R) (state : DirectionState R) → state ≡ Going old
      → GoesOnWithEnds old (reported_source event old.source) old.sink old.notes (Going after)
      → HasSourceAfter event state (Going after) × (event.readable ≡ drives_source event state)
  source_after event old after state is goes = rw is (goes, refl)

  pub target_after : (event : SocketEvent) (old after : Flow R) (state : DirectionState R) (answer : Bool) → state ≡ Going old
      → GoesOnWithEnds old old.source (reported_sink event old.sink) old.notes (Going after)
      → answer ≡ (event.writable && (not old.sink.writable || event.gone))
      → HasTargetAfter event state (Going after) × (answer ≡ drives_target event state)
  target_after event old after state answer is goes drives = rw is (goes, drives)

  pub runs_going : (state : DirectionState R) (flow : Flow R) (new : DirectionState R) (answer : Result Progress LinkFault) → state ≡ Going flow
      → IsAdvanceOf flow new answer → IsRunOf state new answer
  runs_going state flow new answer is advanced = rw is advanced
