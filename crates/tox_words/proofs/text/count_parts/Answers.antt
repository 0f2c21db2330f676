-- The iterator gives the parts between the commas.
use Rattle.std.proofs.Common.{lit<}
use Rattle.std.proofs.lemmas.Iterator.Consumers.{count_from_yields_List}
use Rattle.std.proofs.lemmas.Iterator.Splits.{YieldsList-from_str_split}
use Rattle.tox_words.proofs.text.count_parts.Goals as goal

pub returns : goal.returns
returns c =
    let parts = c.split.ensures in
    count_from_yields_List _ _ c.count.ensures.ran
    (YieldsList-from_str_split 44 c.args.text.now (lit< tt) parts.text parts.has_more parts.pattern)
