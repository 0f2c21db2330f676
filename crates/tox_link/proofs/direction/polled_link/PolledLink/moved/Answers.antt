-- Both counts are at most 2^40.
use Rattle.std.proofs.Common.{arith}
use Rattle.tox_link.proofs.direction.polled_link.PolledLink.moved.Goals as goal

pub overflow_add-result : goal.overflow_add-result
overflow_add-result c =
    let held = c.requires in
    omega (arith, c.stop.ensures.value, held.stop, held.up_to.to_position, held.within, held.few)
