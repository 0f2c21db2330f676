-- The direction may be driven on.
use Rattle.std.proofs.Common.{false, None}
use Rattle.tox_time.specs.Time.{IsInstant}
use Rattle.tox_link.specs.direction.Driven.{IsReady}
use Rattle.tests_core.proofs.link.driving.DrivenLink.take_all.Given as goal

abbrev pub invariant-loop-nth : goal.invariant-loop-nth
invariant-loop-nth g l = IsReady IsInstant l.self.link None false
