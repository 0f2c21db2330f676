-- The closure tests each proxy.
use Rattle.std.proofs.Common.{rules, tests}
use Rattle.std.proofs.lemmas.Iterator.{YieldsList-from_slice}
use Rattle.std.proofs.lemmas.Iterator.Search.{find_from_yields_List}
use Rattle.tox_config.specs.Populate.{is_named}
use Rattle.tox_runs.proofs.files.finding.find_proxy.Goals as goal

pub returns : goal.returns
returns c =
    find_from_yields_List (is_named c.args.name.now) _ _ c.find.result c.find.ensures.ran
    (YieldsList-from_slice c.args.proxies.now c.iter.ensures.rest) (λ x b q k. search (rules, tests))
