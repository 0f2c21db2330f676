-- The closure keeps the pairs of the key.
use Rattle.std.proofs.Common.{lit<, rules, tests, ◌∙◌}
use Rattle.std.proofs.lemmas.Iterator.Consumers.{YieldsList-at, YieldsList-from_filter, count_from_yields_List}
use Rattle.std.proofs.lemmas.Iterator.Splits.{YieldsList-from_str_split}
use Rattle.std.proofs.lemmas.List.Sums.{length-filter}
use Rattle.tox_defs.specs.short.Pairs.{has_key, pairs_of}
use Rattle.tox_defs.proofs.short.pairs.count_key.Goals as goal

pub returns : goal.returns
returns c =
    let split = c.split.ensures in
    let test = has_key c.args.key.now in
    count_from_yields_List _ c.count.result c.count.ensures.ran
    (YieldsList-from_filter _ test
    (YieldsList-at c.filter.ensures.source
    (YieldsList-from_str_split 44 c.args.pairs.now (lit< tt) split.text split.has_more split.pattern))
    c.filter.ensures.closure (λ x b q k. search (rules, tests)))
    ∙ length-filter test (pairs_of c.args.pairs.now)
