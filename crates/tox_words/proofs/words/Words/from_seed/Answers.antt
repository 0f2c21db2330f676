-- A seed makes 1024 words.
use Rattle.std.proofs.Common.{arith}
use Rattle.std.proofs.lemmas.Grind.{common_steps}
use Rattle.tox_words.proofs.Outputs.{length-seeded_words}
use Rattle.tox_words.proofs.words.Words.from_seed.Goals as goal

pub invariant_of-result : goal.invariant_of-result
invariant_of-result c =
    grind (arith, common_steps, length-seeded_words c.args.seed c.args.conn c.args.stream)
