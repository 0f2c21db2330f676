-- What was added, and what the proxies that are left add, is what all add.
use Rattle.std.proofs.Common.{◌≡◌, ◌++◌, drop}
use Rattle.serde_json.specs.View.{items_view}
use Rattle.tox_config.specs.Remarks.{repeated_in}
use Rattle.tox_config.proofs.remarks.repeated_in.Given as goal

abbrev pub invariant-loop-proxy : goal.invariant-loop-proxy
invariant-loop-proxy l =
    l.repeated.items ++ repeated_in (items_view l.values) (drop l.proxy-index l.proxies) ≡ repeated_in (items_view l.values) l.proxies
