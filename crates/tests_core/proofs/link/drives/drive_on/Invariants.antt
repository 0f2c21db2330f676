-- The direction may be driven on.
use Rattle.std.proofs.Common.{◌≡◌, false, Some}
use Rattle.tox_time.specs.Time.{IsInstant}
use Rattle.tox_link.specs.direction.Driven.{IsReady}
use Rattle.tests_core.proofs.link.drives.drive_on.Given as goal

abbrev pub invariant-loop : goal.invariant-loop
invariant-loop g l = record { ready : IsReady IsInstant l.link (Some l.source.end.bytes) l.source.end.failed; working : l.sink.end.failed ≡ false }
