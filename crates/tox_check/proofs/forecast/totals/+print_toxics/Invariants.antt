use Rattle.std.proofs.Common.{length}
use Rattle.tox_check.proofs.forecast.totals.+print_toxics.Given as goal

abbrev pub decreases-print_toxics : goal.decreases-print_toxics
decreases-print_toxics g l = length l.order.now
