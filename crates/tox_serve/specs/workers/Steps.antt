-- What a direction does in its turn, and when it needs a timer.
use Rattle.std.specs.Prelude.{◌≡◌, ℕ, ◌+◌, nat_le, min, not, Bool, true, Option, Some, None, Result, Ok}
use Rattle.tox_link.specs.declared.direction.progress.Progress.{Progress}
use Rattle.tox_link.specs.declared.direction.progress.Progress.TheVariants.{Waits}
use Rattle.tox_link.specs.declared.link_fault.LinkFault.{LinkFault}
use Rattle.tox_serve.specs.declared.workers.open_direction.DirectionState.{DirectionState}
use Rattle.tox_serve.specs.declared.workers.open_direction.DirectionState.TheVariants.{Going, Ended, Driven}
use Rattle.tox_serve.specs.declared.workers.open_direction.OpenDirection.{OpenDirection}
use Rattle.tox_serve.specs.workers.Driven.{IsAdvanceOf}

-- an instant of a link's clock, by the clock of the worker that took the link then
abbrev pub worker_instant : ℕ → ℕ → ℕ
worker_instant since until = min (since + until) 18446744073709551615

-- whether a direction that waits until an instant needs a timer of its own: none is set that is due by then
abbrev pub needs_timer : Option ℕ → ℕ → Bool
needs_timer None due = true
needs_timer (Some armed) due = not (nat_le armed due)

-- how far a direction is behind its turn: it was driven if it goes on, and else is as it was and waits
abbrev pub IsRunOf : {R : Type 0} → DirectionState R → DirectionState R → Result Progress LinkFault → Type 0
IsRunOf (Going flow) new answer = IsAdvanceOf flow new answer
IsRunOf (Ended ended) new answer = (new ≡ Ended ended) × (answer ≡ Ok (Waits None))
IsRunOf Driven new answer = (new ≡ Driven) × (answer ≡ Ok (Waits None))

-- a direction ran for its turn, and its timer and its turns are as they were
pub record Runs {R : Type 0} (old new : OpenDirection R) (answer : Result Progress LinkFault) : Type 0 where
  pub run : IsRunOf old.state new.state answer
  pub armed : new.armed ≡ old.armed
  pub turn : new.has_turn ≡ old.has_turn
