-- Behind each operation a stream has ended by the instant that it leads to.
use Rattle.std.proofs.Common.{ℕ, Option, Some, None}
use Rattle.tox_time.specs.declared.streams.ending.Ending.TheVariants.{StillOpen, Closed, Reset}
use Rattle.tox_defs.specs.declared.operations.op.Op.{Op}
use Rattle.tox_defs.specs.declared.operations.op.Op.TheVariants.{Delay, Pace, Slow, Mute, Cutoff, Slicing, Limit, Halt}
use Rattle.tox_defs.specs.operations.Op.{IsOp}
use Rattle.tox_plan.specs.EndsBy.{EndsBehind}
use Rattle.tox_plan.proofs.EndsBy.{cutoff-ends, delay-ends, halt-closes, halt-resets, limit-ends, slow-ends}
use Rattle.tox_sockets.specs.ResetDue.{after_op}

pub after_op-ends : (due : Option ℕ) (op : Op) → IsOp op → EndsBehind op due (after_op due op)
after_op-ends None (Delay fixed latency jitter lane until from) fits = λ draws items stream ends. tt
after_op-ends (Some due) (Delay fixed latency jitter lane until from) fits = delay-ends due fixed latency jitter lane until from
after_op-ends due (Pace rate until from) fits = λ draws items stream ends. tt
after_op-ends None (Slow millis) fits = λ draws items stream ends. tt
after_op-ends (Some due) (Slow millis) fits = slow-ends due millis
after_op-ends due (Mute end) fits = λ draws items stream ends. tt
after_op-ends due (Cutoff instant) fits = cutoff-ends instant due fits
after_op-ends due (Slicing average variation micros lane until from) fits = λ draws items stream ends. tt
after_op-ends None (Limit bytes) fits = λ draws items stream ends. tt
after_op-ends (Some due) (Limit bytes) fits = limit-ends due bytes
after_op-ends None (Halt at after end) fits = λ draws items stream ends. tt
after_op-ends (Some due) (Halt at after StillOpen) fits = λ draws items stream ends. tt
after_op-ends (Some due) (Halt at after (Closed end)) fits = halt-closes due at after end fits.1
after_op-ends (Some due) (Halt at after (Reset end)) fits = halt-resets due at after end fits.1
