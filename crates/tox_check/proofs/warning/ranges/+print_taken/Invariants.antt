use Rattle.std.proofs.Common.{length}
use Rattle.tox_check.proofs.warning.ranges.+print_taken.Given as goal

abbrev pub decreases-print_taken : goal.decreases-print_taken
decreases-print_taken g l = length l.runs.now
