-- The closure reads each part between the commas, and the words go into an empty list.
use Rattle.std.proofs.Common.{lit<, rules, tests}
use Rattle.std.proofs.lemmas.Iterator.Adapters.{items_from_extend}
use Rattle.std.proofs.lemmas.Iterator.Consumers.{YieldsList-at, YieldsList-from_filter_map}
use Rattle.std.proofs.lemmas.Iterator.Splits.{YieldsList-from_str_split}
use Rattle.tox_words.specs.WordsText.{word_of}
use Rattle.tox_words.proofs.text.words_of.Goals as goal

pub returns : goal.returns
returns c =
    let cut = c.split.ensures in
    let parts = YieldsList-from_str_split 44 c.args.text.now (lit< tt) cut.text cut.has_more cut.pattern in
    let source = YieldsList-at c.filter_map.ensures.source parts in
    let read = items_from_extend c.extend.result c.extend.ensures.ran (
    YieldsList-from_filter_map _ word_of source c.filter_map.ensures.closure (λ x r q k. search (rules, tests))
    ) in
    rw c.in_ok-words.ensures.items at (rw c.in_ok-extend.was at read).0
