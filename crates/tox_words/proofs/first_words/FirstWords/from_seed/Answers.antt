-- At first all outputs are to come, each turn takes one, and at the end the words are the first 32.
use Rattle.std.proofs.Common.{◌≡◌, ◌+◌, ◌-◌, ◌<◌, ◌++◌, length, take, arith, refl, sym, ap, ◌∙◌, length-set}
use Rattle.std.proofs.lemmas.List.{take_all, take_at}
use Rattle.std.proofs.lemmas.List.{take_more_set}
use Rattle.tox_words.specs.Seeded.{outputs, seeded_words}
use Rattle.tox_words.proofs.Outputs.{outputs_step}
use Rattle.tox_words.proofs.first_words.FirstWords.from_seed.Goals as goal

pub loop-lane-init : goal.loop-lane-init
unfolding seeded_words
loop-lane-init c = record { long = refl; made = ap (outputs 1024) c.generator_of-generator.ensures }

pub loop-lane-preserved : goal.loop-lane-preserved
loop-lane-preserved c =
    let turn = c.loop-lane in
    let below : turn.lane < length turn.words = omega arith in
    record {
      long = length-set turn.words turn.lane c.next_word.result ∙ turn.invariant.long;
      made = ap (λ words. words ++ outputs (1024 - (turn.lane + 1)) c.next_word.new.self) (take_more_set turn.words turn.lane c.next_word.result below)
          ∙ outputs_step 1024 turn.lane (take turn.lane turn.words) c.next_word.result turn.generator c.next_word.new.self (omega arith) c.next_word.ensures
          ∙ turn.invariant.made;
    }

pub returns : goal.returns
returns c =
    let turn = c.loop-lane in
    let whole : take turn.lane turn.words ≡ turn.words = take_all turn.lane turn.words (omega arith) in
    sym (take_at turn.words (outputs (1024 - turn.lane) turn.generator) 32 turn.invariant.long)
    ∙ ap (take 32) (ap (λ words. words ++ outputs (1024 - turn.lane) turn.generator) (sym whole) ∙ turn.invariant.made)
