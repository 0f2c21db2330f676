-- The closure looks for the key.
use Rattle.std.proofs.Common.{lit<, rules, tests}
use Rattle.std.proofs.lemmas.Iterator.Search.{find_from_yields_List}
use Rattle.std.proofs.lemmas.Iterator.Splits.{YieldsList-from_str_split}
use Rattle.tox_defs.specs.short.Pairs.{has_key}
use Rattle.tox_defs.proofs.short.pairs.pair_at.Goals as goal

pub returns : goal.returns
returns c =
    let split = c.split.ensures in
    find_from_yields_List (has_key c.args.key.now) _ _ c.find.result c.find.ensures.ran
    (YieldsList-from_str_split 44 c.args.pairs.now (lit< tt) split.text split.has_more split.pattern)
    (λ x b q k. search (rules, tests))
