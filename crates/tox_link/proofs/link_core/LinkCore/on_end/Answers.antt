-- The source's end is kept behind the pieces.
use Rattle.std.proofs.Common.{◌≡◌, ◌≤◌, false, sym, subst}
use Rattle.tox_link.specs.link_core.CoreInside.{core_view}
use Rattle.tox_link.proofs.CoreLemmas.{IsCore-after_end}
use Rattle.tox_link.proofs.link_core.LinkCore.on_end.Goals as goal

pub invariant_of-self-else-is_empty : goal.invariant_of-self-else-is_empty
invariant_of-self-else-is_empty c = record {
  core = IsCore-after_end (core_view c.self.inside) c.args.end c.self.invariant.core
      (subst (λ core. core.ended ≡ false) (sym c.self.view_is) c.requires.first)
      (subst (λ core. core.latest ≤ c.args.end) (sym c.self.view_is) c.requires.later);
  room = c.self.invariant.room;
  deadline = c.self.invariant.deadline;
}
