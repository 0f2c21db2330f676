-- By when operations end a stream.
use Rattle.std.specs.Prelude.{ℕ, ◌+◌, ◌*◌, max, Option, Some, None}
use Rattle.tox_time.specs.declared.streams.ending.Ending.{Ending}
use Rattle.tox_time.specs.declared.streams.ending.Ending.TheVariants.{StillOpen, Closed, Reset}
use Rattle.tox_time.specs.Time.{plus}
use Rattle.tox_defs.specs.declared.operations.op.Op.{Op}
use Rattle.tox_defs.specs.declared.operations.op.Op.TheVariants.{Delay, Pace, Slow, Mute, Cutoff, Slicing, Limit, Halt}
use Rattle.tox_compile.specs.Meaning.{earlier}

-- so many milliseconds later, if there is an instant
abbrev pub later_by : Option ℕ → ℕ → Option ℕ
later_by None millis = None
later_by (Some due) millis = Some (plus due (1000 * millis))

-- not before an ending, if there is an instant; with one that stays open there is none
abbrev pub not_before : Option ℕ → Ending → Option ℕ
not_before None end = None
not_before (Some due) StillOpen = None
not_before (Some due) (Closed end) = Some (max due end)
not_before (Some due) (Reset end) = Some (max due end)

-- the instant by which a stream has ended behind an operation, if it ended by `due` before it
abbrev pub after_op : Option ℕ → Op → Option ℕ
after_op due (Delay fixed latency jitter lane until from) = later_by due (fixed + latency + jitter)
after_op due (Pace rate until from) = None
after_op due (Slow millis) = later_by due millis
after_op due (Mute end) = None
after_op due (Cutoff instant) = earlier instant due
after_op due (Slicing average variation micros lane until from) = None
after_op due (Limit bytes) = due
after_op due (Halt at after end) = not_before due end
