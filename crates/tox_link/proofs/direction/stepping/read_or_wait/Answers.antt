-- A read is a step, and a wait is none.
use Rattle.std.proofs.Common.{arith}
use Rattle.tox_link.proofs.DriveLemmas.{drove-none, drove-less, move-one}
use Rattle.tox_link.proofs.direction.stepping.read_or_wait.Goals as goal

pub returns-then-not-may_take-clause-drove : goal.returns-then-not-may_take-clause-drove
returns-then-not-may_take-clause-drove g c = λ written. drove-none (g.C.Clock.reported c.args.clock.now) c.args.link.now _

pub returns-then-moved-clause-drove : goal.returns-then-moved-clause-drove
returns-then-moved-clause-drove g c =
    λ written.
    drove-less _ 1 (g.C.Clock.reported c.args.clock.now) c.args.link.now c.read_once.new.link _ _
    (move-one c.in-Ok.moved c.read_once.result c.in-Ok.is c.if-moved.true) (c.read_once.ensures.drove written)

pub returns-else-moved-clause-drove : goal.returns-else-moved-clause-drove
returns-else-moved-clause-drove g c = λ written. drove-less _ 0 (g.C.Clock.reported c.args.clock.now) c.args.link.now c.read_once.new.link _ _ (omega arith)
    (c.read_once.ensures.drove written)
