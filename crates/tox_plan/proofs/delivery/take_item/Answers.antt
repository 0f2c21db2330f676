-- The end of the arrivals is not before the last one.
use Rattle.std.proofs.Common.{◌≤◌, arith}
use Rattle.tox_plan.proofs.delivery.take_item.Goals as goal

pub finish-requires-clause-later : goal.finish-requires-clause-later
finish-requires-clause-later c =
    let order : c.requires.follows.last.instant ≤ c.in-Closed.instant = rw c.in-Closed.is at c.requires.follows.follows in
    omega (arith, order, c.requires.follows.latest)
