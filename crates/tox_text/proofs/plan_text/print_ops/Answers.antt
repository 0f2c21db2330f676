-- One line behind the other.
use Rattle.tox_text.specs.PlanText.{op_line}
use Rattle.tox_text.proofs.Listed.{IsAt}
use Rattle.tox_text.proofs.Printings.{Prints-more, Prints-stopped}
use Rattle.tox_text.proofs.plan_text.print_ops.Goals as goal

pub loop-op-preserved : goal.loop-op-preserved
loop-op-preserved g c =
    let here : IsAt c.args.ops.now c.loop-op.op-index c.op-item.result =
    record { below = c.loop-op-test.true; default = c.op-item.result; is = c.op-item.is } in
    Prints-more op_line here c.loop-op.invariant c.in_ok-print_op.ensures

pub returns-in_err-print_op : goal.returns-in_err-print_op
returns-in_err-print_op g c =
    let here : IsAt c.args.ops.now c.loop-op.op-index c.op-item.result =
    record { below = c.loop-op-test.true; default = c.op-item.result; is = c.op-item.is } in
    Prints-stopped op_line here c.from_residual.ensures.1 c.loop-op.invariant c.in_err-print_op.ensures
