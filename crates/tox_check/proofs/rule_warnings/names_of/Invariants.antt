-- The names of the first proxies.
use Rattle.std.proofs.Common.{◌≡◌, map, take}
use Rattle.tox_check.specs.Lines.{proxy_names}
use Rattle.tox_check.proofs.rule_warnings.names_of.Given as goal

abbrev pub invariant-loop-proxy : goal.invariant-loop-proxy
invariant-loop-proxy l = map (λ name. name.now) l.names.items ≡ proxy_names (take l.proxy-index l.proxies)
