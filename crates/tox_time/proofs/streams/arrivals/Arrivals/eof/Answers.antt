use Rattle.std.proofs.Common.{◌≡◌, false, ◌≤◌, ap, rules, refl, arith}
use Rattle.tox_time.specs.declared.streams.item.Item.TheVariants.{Closed}
use Rattle.tox_time.proofs.ArrivalsKept.{KeepsArrivals-push}
use Rattle.tox_time.proofs.streams.arrivals.Arrivals.eof.Goals as goal

pub invariant_of-self-2 : goal.invariant_of-self-2
invariant_of-self-2 c =
    let ended : c.self.inside.so_far.ended ≡ false = c.in_ok-next.ensures.bounds.1 in
    let order : c.self.inside.so_far.latest ≤ c.args.instant = c.in_ok-next.ensures.bounds.0 in
    let behind = c.in_ok-next.ensures.behind in
    KeepsArrivals-push c.self.inside _ (Closed c.args.instant) c.self.invariant ended (order, omega arith, refl) (λ reset. reset) (search rules)
    (omega (arith, ap (λ place. place.position) behind)) (omega (arith, ap (λ place. place.position) behind)) (ap (λ place. place.latest) behind)
    (ap (λ place. place.ended) behind)
