use Rattle.std.proofs.Common.{length}
use Rattle.tox_check.proofs.warning.ranges.+print_ranges.Given as goal

abbrev pub decreases-print_ranges : goal.decreases-print_ranges
decreases-print_ranges g l = length l.runs.now
