use Rattle.std.proofs.Common.{ℕ, take, arith, length-append, length-take}
use Rattle.tox_runs.proofs.ReadLemmas.{TakesAtMost-read}
use Rattle.tox_runs.proofs.runs.whole_input.read_by_blocks.Goals as goal

pub returns-then-is_err-clause-most : goal.returns-then-is_err-clause-most
returns-then-is_err-clause-most g c =
    TakesAtMost-read _ _ _ _ c.loop-text.text.items (take c.in-Ok.count c.read.new.buffer) c.loop-text.invariant.given c.in-Ok.ensures.bytes
    (omega (arith, length-append {A = ℕ}, length-take {A = ℕ}))
