-- The closure tests each part between the commas.
use Rattle.std.proofs.Common.{lit<, rules, tests, is_none}
use Rattle.std.proofs.lemmas.Iterator.Search.{position_from_yields_List}
use Rattle.std.proofs.lemmas.Iterator.Splits.{YieldsList-from_str_split}
use Rattle.tox_words.specs.WordsText.{word_of}
use Rattle.tox_words.proofs.text.bad_place.Goals as goal

pub returns : goal.returns
returns c =
    let parts = c.split.ensures in
    position_from_yields_List (λ part. is_none (word_of part)) _ _ c.position.result c.position.ensures.ran
    (YieldsList-from_str_split 44 c.args.text.now (lit< tt) parts.text parts.has_more parts.pattern)
    (λ x b q k. search (rules, tests))
