use Rattle.std.proofs.Common.{length}
use Rattle.tox_check.proofs.forecast.flags.+meets_name.Given as goal

abbrev pub decreases-meets_name : goal.decreases-meets_name
decreases-meets_name l = length l.names.now
