-- The lines of the first operations were printed.
use Rattle.std.proofs.Common.{Ok, take, flat_map}
use Rattle.tox_text.specs.PlanText.{op_line}
use Rattle.tox_text.specs.Printing.{Prints}
use Rattle.tox_text.proofs.plan_text.print_ops.Given as goal

abbrev pub invariant-loop-op : goal.invariant-loop-op
invariant-loop-op g l = Prints g.W.Sink (Ok tt) l.fn.printer l.printer (flat_map op_line (take l.op-index l.ops))
