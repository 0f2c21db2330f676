-- Of an empty strand `grind` proves this at once, where `search` takes 8 seconds and gives up.
use Rattle.std.proofs.Common.{arith}
use Rattle.std.proofs.lemmas.Grind.{common_steps}
use Rattle.tox_draw.proofs.strand.Strand.new.Goals as goal

pub returns : goal.returns
returns c = grind (arith, common_steps)
