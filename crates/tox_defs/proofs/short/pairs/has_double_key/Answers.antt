-- The closure counts each key.
use Rattle.std.proofs.Common.{count_by, lit<, nat_lt, rules, tests}
use Rattle.std.proofs.lemmas.Iterator.Search.{any_from_yields_List}
use Rattle.std.proofs.lemmas.Iterator.Splits.{YieldsList-from_str_split}
use Rattle.tox_defs.specs.short.Pairs.{has_key, key_of, pairs_of}
use Rattle.tox_defs.proofs.short.pairs.has_double_key.Goals as goal

pub returns : goal.returns
returns c =
    let split = c.split.ensures in
    let pairs = pairs_of c.args.pairs.now in
    any_from_yields_List (λ pair. nat_lt 1 (count_by (has_key (key_of pair)) pairs)) _ _ c.any.result c.any.ensures.ran
    (YieldsList-from_str_split 44 c.args.pairs.now (lit< tt) split.text split.has_more split.pattern)
    (λ x b q k. search (rules, tests))
