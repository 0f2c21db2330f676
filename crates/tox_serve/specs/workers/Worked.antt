-- What a worker does at a turn and at a timer of an open link.
use Rattle.std.specs.declared.alloc.Global.{Global}
use Rattle.std.specs.Prelude.{Box, ◌≡◌, ℕ, ◌⊎◌, false}
use Rattle.tox_serve.specs.declared.workers.open_link.OpenLink.{OpenLink}
use Rattle.tox_serve.specs.declared.workers.timers.Turn.{Turn}
use Rattle.tox_serve.specs.declared.workers.worker.Worker.{Worker}
use Rattle.tox_serve.specs.workers.OpenLinks.{Disarms, SetsTurn}
use Rattle.tox_serve.specs.workers.Settled.{IsSettled}
use Rattle.tox_serve.specs.workers.Timers.{timers_of}
use Rattle.tox_serve.specs.workers.Turns.{HasTurn, IsBrokenOff, RunsTurn}

-- the turn of a direction has come: it ran, and its link is settled
pub record TakesTurn {R : Type 0} (turn : Turn) (link : Box (OpenLink R) Global) (old new : Worker R) : Type 0 where
  pub taken : OpenLink R
  pub takes : SetsTurn turn.stream false link.value taken
  pub driven : Box (OpenLink R) Global
  pub runs : RunsTurn turn taken driven.value (timers_of old.timers) (timers_of new.timers) old.turns.items new.turns.items
  pub settled : IsSettled turn.key driven old.links.places new.links.places

-- a timer of a direction is over: the direction has a turn, or else memory is refused and its link is broken off; and its link is
-- settled
pub record TakesTimer {R : Type 0} (due : ℕ) (turn : Turn) (link : Box (OpenLink R) Global) (old new : Worker R) : Type 0 where
  pub over : OpenLink R
  pub disarms : Disarms turn.stream due link.value over
  pub given : Box (OpenLink R) Global
  pub gives : HasTurn turn over given.value old.turns.items new.turns.items ⊎ IsBrokenOff over given.value
  pub settled : IsSettled turn.key given old.links.places new.links.places
  pub timers_stay : timers_of new.timers ≡ timers_of old.timers
