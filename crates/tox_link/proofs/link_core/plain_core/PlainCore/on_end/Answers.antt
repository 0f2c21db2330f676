-- What came by then came by the end.
use Rattle.std.proofs.Common.{◌≤◌, refl, subst, sym}
use Rattle.tox_link.proofs.PlainLemmas.{came-later}
use Rattle.tox_link.proofs.link_core.plain_core.PlainCore.on_end.Goals as goal

pub invariant_of-self : goal.invariant_of-self
invariant_of-self c =
    let inside = c.self.inside in
    let later : inside.so_far.latest ≤ c.args.end = subst (λ core. core.latest ≤ c.args.end) (sym c.self.view_is) c.requires.later in
    let kept = c.self.invariant in
    record { total = kept.total; few = kept.few; waits = came-later inside.so_far.latest c.args.end inside.waiting.items later kept.waits; ended = refl }
