use Rattle.std.proofs.Common.{length}
use Rattle.tox_check.proofs.rule_coverage.+put_silent.Given as goal

abbrev pub decreases-put_silent : goal.decreases-put_silent
decreases-put_silent l = length l.order.now
