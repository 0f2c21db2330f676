-- The first piece is kept, and so are the others.
use Rattle.std.proofs.Common.{◌≡◌, ◌<◌, false, filter, nat_lt, length, rules}
use Rattle.std.specs.Prelude.{nat_le}
use Rattle.tox_lend.specs.Run.{stop_of}
use Rattle.tox_lend.proofs.WindowLemmas.{filter_kept}
use Rattle.tox_lend.proofs.window.Window.take_ended.Goals as goal

pub returns-then-not-ends_by-clause-none : goal.returns-then-not-ends_by-clause-none
returns-then-not-ends_by-clause-none c =
    let held = c.self.inside.held.items in
    let after : nat_le (stop_of c.in_ok-front.field-0.now) c.args.position ≡ false = search rules in
    let some : 0 < length held = search rules in
    let kept : filter (λ p. nat_lt c.args.position (stop_of p)) held ≡ held =
    filter_kept c.self.inside.stop c.args.position held c.in_ok-front.field-0.now c.self.invariant.joined some c.in_ok-front.ensures.lookup after in
    search (rules, kept)
