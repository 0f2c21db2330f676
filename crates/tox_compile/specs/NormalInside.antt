-- What an operation adds to another.
use Rattle.std.specs.Prelude.{ℕ, ◌+◌}
use Rattle.tox_defs.specs.declared.operations.op.Op.{Op}
use Rattle.tox_defs.specs.declared.operations.op.Op.TheVariants.{Delay, Slow}

-- the operation with so many milliseconds more, where it has them
abbrev pub with_more : Op → ℕ → Op
with_more (Delay fixed latency jitter lane until from) more =
    Delay (fixed + more) latency jitter lane until from
with_more (Slow millis) more = Slow (millis + more)
with_more op more = op
