-- Which plans draw words.
use Rattle.std.specs.Prelude.{Bool, false, List, nat_lt}
use Rattle.std.specs.List.{list_any}
use Rattle.tox_defs.specs.declared.operations.op.Op.{Op}
use Rattle.tox_defs.specs.declared.operations.op.Op.TheVariants.{Delay, Slicing}

-- whether an operation draws words: a delay that has jitter does, and a slicing whose sizes vary
abbrev pub op_draws : Op → Bool
op_draws (Delay fixed latency jitter lane until from) = nat_lt 0 jitter
op_draws (Slicing average variation micros lane until from) = nat_lt 0 variation
op_draws op = false

-- whether some operation draws words
abbrev pub plan_draws : List Op → Bool
plan_draws ops = list_any op_draws ops
