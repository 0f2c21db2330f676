use Rattle.std.proofs.Common.{◌≡◌, false, ◌+◌, ◌^◌, ◌<◌, ◌≤◌, ◌∙◌, ap, rules, refl, arith}
use Rattle.tox_time.specs.declared.streams.item.Item.TheVariants.{Chunk}
use Rattle.tox_time.proofs.ArrivalsKept.{KeepsArrivals-push}
use Rattle.tox_time.proofs.streams.arrivals.Arrivals.push.Goals as goal

pub invariant_of-self-2 : goal.invariant_of-self-2
invariant_of-self-2 c =
    let ended : c.self.inside.so_far.ended ≡ false = c.in_ok-next.ensures.bounds.3 in
    let filled : 0 < c.args.len = c.in_ok-next.ensures.bounds.1 in
    let most : c.self.inside.so_far.position + c.args.len ≤ 2 ^ 40 = c.in_ok-next.ensures.bounds.2 in
    let order : c.self.inside.so_far.latest ≤ c.args.instant = c.in_ok-next.ensures.bounds.0 in
    let behind = c.in_ok-next.ensures.behind in
    let chunk = Chunk (record { start = c.self.inside.so_far.position; stop = c.self.inside.so_far.position + c.args.len }) c.args.instant in
    KeepsArrivals-push c.self.inside _ chunk c.self.invariant ended (refl, omega arith, order, omega arith, refl) (λ reset. reset) (search rules)
    (omega (arith, ap (λ place. place.position) behind)) (omega (arith, ap (λ place. place.position) behind)) (ap (λ place. place.latest) behind)
    (ap (λ place. place.ended) behind ∙ ended)
