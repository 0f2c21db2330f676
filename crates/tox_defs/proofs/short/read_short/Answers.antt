-- A printed short form has the value that reads back.
use Rattle.std.proofs.Common.{◌≡◌, ap, arith, ◌∙◌}
use Rattle.std.proofs.lemmas.Grind.{common_steps}
use Rattle.tox_defs.specs.short.Short.{short_of}
use Rattle.tox_defs.proofs.ReadsBack.{reads_back}
use Rattle.tox_defs.proofs.short.read_short.Goals as goal

pub returns-in-Some-clause-reads_back : goal.returns-in-Some-clause-reads_back
returns-in-Some-clause-reads_back c =
    let value : c.read_pairs.result ≡ short_of c.args.text.now = grind (arith, common_steps) in
    λ toxic toxicity inside most is. value ∙ ap short_of is ∙ reads_back toxic toxicity inside most
