-- There is room for half the width on either side.
use Rattle.std.proofs.Common.{◌≡◌, ℕ, ◌+◌, ◌-◌, ◌*◌, ◌≤◌, false, List, take, drop, nat_lt, rules, tests, refl, subst, IfOk}
use Rattle.tox_draw.specs.Places.{place_among, place_of, rooms}
use Rattle.tox_draw.proofs.place.place_of.Goals as goal

wide_by : (upper lower : List ℕ) (end half least : ℕ) → nat_lt end (2 * half) ≡ false
    → place_among (take (end - 2 * half + 1) upper) (rooms (take (end - 2 * half + 1) upper) (take (end + 1 - 2 * half) (drop (2 * half) lower))) half least
    ≡ place_of upper lower end half least
wide_by upper lower end half least is = rw is refl

not_below : (end half : ℕ) → 2 * half ≤ end → nat_lt end (2 * half) ≡ false
not_below end half wide = search (rules, tests)

pub returns-clause-value : goal.returns-clause-value
returns-clause-value c =
    subst (λ wanted. IfOk c.place_between.result (λ place. place ≡ wanted))
    (wide_by c.args.upper.now c.args.lower.now c.args.end c.args.half c.args.least (not_below c.args.end c.args.half c.if-end-half.false))
    c.place_between.ensures.value
