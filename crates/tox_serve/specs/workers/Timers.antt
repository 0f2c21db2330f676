-- The timers of a worker.
use Rattle.std.specs.Prelude.{◌≡◌, ℕ, ◌≤◌, All, Bool, true, false, List, ◌∷◌, map}
use Rattle.std.specs.BinaryHeap.{heap_items}
use Rattle.std.specs.List.{Contains}
use Rattle.std.specs.List.Sorted.{IsPermutation}
use Rattle.tox_time.specs.declared.streams.stream.Stream.{Stream}
use Rattle.tox_time.specs.declared.streams.stream.Stream.TheVariants.{Upstream, Downstream}
use Rattle.tox_serve.specs.declared.workers.timers.Timer.{Timer}
use Rattle.tox_serve.specs.declared.workers.timers.Timers.{Timers}
use Rattle.tox_serve.specs.declared.workers.timers.Turn.{Turn}

abbrev pub is_down : Stream → Bool
is_down Upstream = false
is_down Downstream = true

abbrev pub stream_of_timer : Bool → Stream
stream_of_timer true = Downstream
stream_of_timer false = Upstream

-- the timer of a direction at an instant
abbrev pub timer_of : ℕ → Turn → Timer
timer_of due turn = record { due = due; key = turn.key; down = is_down turn.stream }

-- whose timer it is
abbrev pub turn_of : Timer → Turn
turn_of timer = record { key = timer.key; stream = stream_of_timer timer.down }

-- the timers that are set, in some order
abbrev pub timers_of : Timers → List Timer
timers_of timers = map (λ reversed. reversed.0) (heap_items timers.heap)

-- one timer was taken out: it was due at this instant, and it was this turn's
pub record IsNextOf (old new : List Timer) (due : ℕ) (turn : Turn) : Type 0 where
  pub timer : Timer
  pub due_then : timer.due ≡ due
  pub its_turn : turn_of timer ≡ turn
  pub taken : IsPermutation old (timer ∷ new)

-- a timer of these is due at this instant, and none before
pub record IsEarliest (timers : List Timer) (due : ℕ) : Type 0 where
  pub timer : Timer
  pub its : timer.due ≡ due
  pub among : Contains timers timer
  pub first : All (λ other. due ≤ other.due) timers
