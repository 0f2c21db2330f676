-- The order of timers: by when they are due.
use Rattle.std.specs.Prelude.{ℕ}
use Rattle.std.specs.declared.cmp.Ordering.{Ordering}
use Rattle.std.specs.declared.cmp.Reverse.{Reverse}
use Rattle.std.specs.Ordering.{nat_cmp}
use Rattle.tox_serve.specs.declared.workers.timers.Timer.{Timer}

-- when a timer is due
abbrev pub due_of : Timer → ℕ
due_of timer = timer.due

-- the earlier of two timers is the greater one
abbrev pub earlier_first : Reverse Timer → Reverse Timer → Ordering
earlier_first one other = nat_cmp (due_of other.0) (due_of one.0)
