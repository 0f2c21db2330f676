use Rattle.std.proofs.Common.{◌≡◌, []}
use Rattle.tox_log.proofs.files.log_writer.write_logs.Given as goal

abbrev pub invariant-loop : goal.invariant-loop
invariant-loop g l = l.taken.items ≡ []
