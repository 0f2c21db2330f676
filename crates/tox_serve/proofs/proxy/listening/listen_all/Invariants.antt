-- The enabled ones of the first proxies are bound, each with its place, and the next one stands at this place.
use Rattle.std.proofs.Common.{◌≡◌, Some, take, filter, map, slice_get}
use Rattle.std.specs.Prelude.{All}
use Rattle.tox_config.specs.Proxy.{Proxy}
use Rattle.tox_serve.proofs.proxy.listening.listen_all.Given as goal

abbrev pub invariant-loop-proxy : goal.invariant-loop-proxy
invariant-loop-proxy g l = record {
  bound : map (λ bound. bound.proxy.now) l.listening.items
      ≡ filter (λ (proxy : Proxy). proxy.enabled) (take l.proxy-index l.proxies);
  place : l.place ≡ l.proxy-index;
  places : All (λ bound. slice_get l.proxies bound.place ≡ Some bound.proxy.now) l.listening.items;
}
