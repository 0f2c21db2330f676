-- What an operation of a plan gives, in the words of the toxics.
use Rattle.std.specs.Prelude.{ℕ, ◌*◌, ◌<◌, Bool, true, false, Option, None, Some}
use Rattle.tox_time.specs.declared.streams.ending.Ending.{Ending}
use Rattle.tox_time.specs.declared.streams.ending.Ending.TheVariants.{StillOpen, Closed, Reset}
use Rattle.tox_time.specs.Time.{IsInstant}
use Rattle.tox_time.specs.streams.Table.{final_of}
use Rattle.tox_words.specs.Draw.{Draws}
use Rattle.tox_defs.specs.declared.toxic.Toxic.{Toxic}
use Rattle.tox_defs.specs.declared.operations.op.Op.{Op}
use Rattle.tox_defs.specs.declared.operations.op.Op.TheVariants.{Delay, Pace, Slow, Mute, Cutoff, Slicing, Limit, Halt}
use Rattle.tox_defs.specs.stage.Reaction.{Giving, Reaction, counted}
use Rattle.tox_defs.specs.operations.During.{during}
use Rattle.tox_defs.specs.toxics.{meaning_of}
use Rattle.tox_defs.specs.toxics.Latency.{IsNormal, delay_op_gives}
use Rattle.tox_defs.specs.toxics.Bandwidth.{pace_gives}
use Rattle.tox_defs.specs.toxics.SlowClose.{slow_gives}
use Rattle.tox_defs.specs.toxics.Timeout.{mute_gives}
use Rattle.tox_defs.specs.toxics.ResetPeer.{cutoff_gives}
use Rattle.tox_defs.specs.toxics.Slicer.{slicer_gives}
use Rattle.tox_defs.specs.toxics.LimitData.{limit_gives}
use Rattle.tox_defs.specs.toxics.Halt.{halt_gives}

-- what an operation gives
abbrev pub op_giving : Op → Draws → Giving
op_giving (Delay fixed latency jitter lane until from) draws =
    delay_op_gives fixed latency jitter (draws lane)
op_giving (Pace rate until from) draws = pace_gives rate
op_giving (Slow millis) draws = slow_gives (1000 * millis)
op_giving (Mute end) draws = mute_gives (final_of end)
op_giving (Cutoff instant) draws = cutoff_gives instant
op_giving (Slicing average variation micros lane until from) draws =
    slicer_gives average variation micros (draws lane)
op_giving (Limit bytes) draws = limit_gives bytes
op_giving (Halt at after ending) draws = halt_gives at after ending

-- the milliseconds from which on an operation lets chunks pass; 0: it never does
abbrev pub op_until : Op → ℕ
op_until (Delay fixed latency jitter lane until from) = until
op_until (Pace rate until from) = until
op_until (Slicing average variation micros lane until from) = until
op_until op = 0

-- the milliseconds before which an operation lets chunks pass; 0: it never does
abbrev pub op_from : Op → ℕ
op_from (Delay fixed latency jitter lane until from) = from
op_from (Pace rate until from) = from
op_from (Slicing average variation micros lane until from) = from
op_from op = 0

-- the reaction of an operation
abbrev pub op_reaction : Op → Draws → Reaction
op_reaction op draws = during (op_from op) (op_until op) (counted (op_giving op draws))

-- the operation of a toxic at a place
abbrev pub op_of : ℕ → Toxic → Op
op_of place toxic = (meaning_of toxic).op place

-- an ending whose instant is one
abbrev pub EndsInTime : Ending → Type 0
EndsInTime StillOpen = Unit {0}
EndsInTime (Closed t) = IsInstant t
EndsInTime (Reset t) = IsInstant t

-- nothing, or an instant
abbrev pub MayBegin : Option ℕ → Type 0
MayBegin None = Unit {0}
MayBegin (Some at) = IsInstant at

-- an operation that a plan may have
abbrev pub IsOp : Op → Type 0
IsOp (Delay fixed latency jitter lane until from) = IsNormal latency jitter
IsOp (Pace rate until from) = 0 < rate
IsOp (Slow millis) = Unit {0}
IsOp (Mute end) = EndsInTime end
IsOp (Cutoff instant) = IsInstant instant
IsOp (Slicing average variation micros lane until from) = variation < average
IsOp (Limit bytes) = Unit {0}
IsOp (Halt at after ending) = MayBegin at × EndsInTime ending

-- whether an operation drops all data
abbrev pub is_mute : Op → Bool
is_mute (Mute end) = true
is_mute op = false

-- the milliseconds by which an operation delays every chunk, or a close
abbrev pub millis_of : Op → ℕ
millis_of (Delay fixed latency jitter lane until from) = fixed
millis_of (Slow millis) = millis
millis_of op = 0
