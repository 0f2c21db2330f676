-- At first all outputs are to come, each turn takes one, and at the end none is to come.
use Rattle.std.proofs.Common.{arith, rules, sym, ◌∙◌}
use Rattle.tox_words.specs.Seeded.{seeded_words}
use Rattle.tox_words.proofs.Outputs.{outputs_end, outputs_step}
use Rattle.tox_words.proofs.seed.seeded_words.Goals as goal

pub loop-init : goal.loop-init
unfolding seeded_words
loop-init c = search rules

pub loop-preserved : goal.loop-preserved
loop-preserved c = rw c.in_ok-push.ensures.items (
    outputs_step 1024 c.loop.counter c.loop.words.items c.next_word.result c.loop.generator c.next_word.new.self (omega arith) c.next_word.ensures
    ∙ c.loop.invariant
    )

pub returns : goal.returns
returns c = sym (outputs_end 1024 c.loop.counter c.loop.words.items c.loop.generator (omega arith)) ∙ c.loop.invariant
