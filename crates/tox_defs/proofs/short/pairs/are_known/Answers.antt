-- The closure tests each key.
use Rattle.std.proofs.Common.{lit<, rules, tests}
use Rattle.std.proofs.lemmas.Iterator.Search.{all_from_yields_List}
use Rattle.std.proofs.lemmas.Iterator.Splits.{YieldsList-from_str_split}
use Rattle.tox_defs.specs.short.Pairs.{key_of}
use Rattle.tox_defs.specs.short.Short.{is_known}
use Rattle.tox_defs.proofs.short.pairs.are_known.Goals as goal

pub returns : goal.returns
returns c =
    let split = c.split.ensures in
    all_from_yields_List (λ pair. is_known c.args.toxic.now (key_of pair)) _ _ c.all.result c.all.ensures.ran
    (YieldsList-from_str_split 44 c.args.pairs.now (lit< tt) split.text split.has_more split.pattern)
    (λ x b q k. search (rules, tests))
