-- No part is bad, so the number of the parts decides.
use Rattle.std.proofs.Common.{◌≡◌, arith, sym, rules}
use Rattle.tox_words.specs.WordsText.{parts_of, words_of}
use Rattle.tox_words.proofs.Texts.{few_words, many_words}
use Rattle.tox_words.proofs.words.Words.from_text.Goals as goal

pub returns-then-count-gt-MAX_WORDS-clause-fault : goal.returns-then-count-gt-MAX_WORDS-clause-fault
returns-then-count-gt-MAX_WORDS-clause-fault c =
    λ _. many_words c.args.text.now (sym c.if-is_empty.ensures) (sym c.in_default.ensures) (omega arith)

pub returns-in_err-words-clause-memory_last : goal.returns-in_err-words-clause-memory_last
returns-in_err-words-clause-memory_last c =
    let table = few_words c.args.text.now (sym c.if-is_empty.ensures) (sym c.in_default.ensures) (omega arith) in
    λ _. rw table.0

pub invariant_of-result : goal.invariant_of-result
invariant_of-result c =
    let table = few_words c.args.text.now (sym c.if-is_empty.ensures) (sym c.in_default.ensures) (omega arith) in
    let read : c.in_ok-words.words.items ≡ words_of (parts_of c.args.text.now) = search rules in
    rw read table.1

pub returns-clause-ok : goal.returns-clause-ok
returns-clause-ok c =
    let table = few_words c.args.text.now (sym c.if-is_empty.ensures) (sym c.in_default.ensures) (omega arith) in
    let read : c.in_ok-words.words.items ≡ words_of (parts_of c.args.text.now) = search rules in
    rw read table.0
