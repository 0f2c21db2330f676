use Rattle.std.proofs.Common.{length}
use Rattle.tox_stages.proofs.levels.+level.Given as goal

-- each level is lent one toxic less
abbrev pub decreases-level : goal.decreases-level
decreases-level g l = length l.toxics.now
