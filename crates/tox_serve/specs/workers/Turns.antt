-- How a direction's next drive is scheduled.
use Rattle.std.specs.Prelude.{◌≡◌, ℕ, true, List, [], ◌∷◌, ◌++◌, ◌⊎◌, if◌then◌else◌, MatchBool, Some, None, Result, Ok, Err}
use Rattle.std.specs.List.Sorted.{IsPermutation}
use Rattle.tox_time.specs.declared.streams.stream.Stream.TheVariants.{Upstream, Downstream}
use Rattle.tox_link.specs.declared.direction.progress.Progress.{Progress}
use Rattle.tox_link.specs.declared.direction.progress.Progress.TheVariants.{Waits, Again, Ended}
use Rattle.tox_link.specs.declared.link_fault.LinkFault.{LinkFault}
use Rattle.tox_serve.specs.declared.workers.timers.Timer.{Timer}
use Rattle.tox_serve.specs.declared.workers.timers.Turn.{Turn}
use Rattle.tox_serve.specs.declared.workers.open_link.OpenLink.{OpenLink}
use Rattle.tox_serve.specs.workers.Directions.{IsBrokenOffFrom}
use Rattle.tox_serve.specs.workers.OpenLinks.{Arms, IsSameLink, SetsTurn, direction_of}
use Rattle.tox_serve.specs.workers.Peers.{other_stream}
use Rattle.tox_serve.specs.workers.Steps.{Runs, needs_timer, worker_instant}
use Rattle.tox_serve.specs.workers.Timers.{timer_of}

-- the turn of the other direction of a link
abbrev pub other_turn : Turn → Turn
other_turn turn = record { key = turn.key; stream = other_stream turn.stream }

-- a direction has a turn: the last one, unless one of it waited before
pub record HasTurn {R : Type 0} (turn : Turn) (old new : OpenLink R) (turns new_turns : List Turn) : Type 0 where
  pub claimed : SetsTurn turn.stream true old new
  pub given : new_turns ≡ turns ++ (if (direction_of turn.stream old).has_turn then [] else turn ∷ [])

-- neither a turn nor a timer is given
pub record GivesNone {R : Type 0} (old new : OpenLink R) (timers new_timers : List Timer) (turns new_turns : List Turn) : Type 0 where
  pub link : new ≡ old
  pub timers_stay : new_timers ≡ timers
  pub turns_stay : new_turns ≡ turns

-- a direction has a timer that is due by an instant: a new one, unless one was set before
pub record HasTimer {R : Type 0} (turn : Turn) (due : ℕ) (old new : OpenLink R) (timers new_timers : List Timer) : Type 0 where
  pub armed : Arms turn.stream due old new
  pub given : MatchBool (needs_timer (direction_of turn.stream old).armed due) (IsPermutation (timer_of due turn ∷ timers) new_timers) (new_timers ≡ timers)

-- a direction's next drive is scheduled by what the last one answered: one that waits until an instant has a timer then, one that
-- may go on at once has a turn, and once it has ended the other one
abbrev pub IsScheduled : {R : Type 0} → Turn → Result Progress LinkFault → (old new : OpenLink R) → (timers new_timers : List Timer)
    → (turns new_turns : List Turn) → Type 0
IsScheduled turn (Ok (Waits None)) old new timers new_timers turns new_turns = GivesNone old new timers new_timers turns new_turns
IsScheduled turn (Ok (Waits (Some until))) old new timers new_timers turns new_turns =
    HasTimer turn (worker_instant old.since.worker until) old new timers new_timers × (new_turns ≡ turns)
IsScheduled turn (Ok Again) old new timers new_timers turns new_turns = HasTurn turn old new turns new_turns × (new_timers ≡ timers)
IsScheduled turn (Ok (Ended ending)) old new timers new_timers turns new_turns = HasTurn (other_turn turn) old new turns new_turns × (new_timers ≡ timers)
IsScheduled turn (Err fault) old new timers new_timers turns new_turns = HasTurn (other_turn turn) old new turns new_turns × (new_timers ≡ timers)

-- a link is broken off, out of memory
pub record IsBrokenOff {R : Type 0} (old new : OpenLink R) : Type 0 where
  pub up : IsBrokenOffFrom Upstream old.up.state new.up.state
  pub down : IsBrokenOffFrom Downstream old.down.state new.down.state

-- a direction of a link ran for its turn, and its next drive is scheduled: or else memory is refused, and the link is broken off
pub record RunsTurn {R : Type 0} (turn : Turn) (old new : OpenLink R) (timers new_timers : List Timer) (turns new_turns : List Turn) : Type 0 where
  pub driven : OpenLink R
  pub answer : Result Progress LinkFault
  pub runs : Runs (direction_of turn.stream old) (direction_of turn.stream driven) answer
  pub other : direction_of (other_stream turn.stream) driven ≡ direction_of (other_stream turn.stream) old
  pub same : IsSameLink old driven
  pub after : IsScheduled turn answer driven new timers new_timers turns new_turns ⊎ IsBrokenOff driven new
