-- There are no more rows than fit.
use Rattle.std.proofs.Common.{arith}
use Rattle.tox_draw.proofs.pages.kind.count_of.Goals as goal

pub overflow_add-count : goal.overflow_add-count
overflow_add-count c = omega (arith, c.loop-row.invariant.few, c.loop-row-test.true)
