-- An accepted piece waits behind the others.
use Rattle.std.proofs.Common.{◌≡◌, Bool, ◌||◌, false, ◌<◌, ◌≤◌, ◌∷◌, ◌∙◌, sym, subst, ap, arith, rules}
use Rattle.std.proofs.lemmas.Bool.{or_parts}
use Rattle.tox_link.specs.link_core.Core.{kept_count, remaining_output}
use Rattle.tox_link.specs.link_core.CoreInside.{core_view}
use Rattle.tox_link.proofs.WaitingLemmas.{chunk_from}
use Rattle.tox_link.proofs.CoreLemmas.{after_piece, IsCore-after_piece, output-after_piece}
use Rattle.tox_link.proofs.link_core.LinkCore.on_piece.Goals as goal

-- a source with a piece to come hasn't ended
running : (ended known over : Bool) → over ≡ (ended || known) → over ≡ false → ended ≡ false
running ended known over is more = (or_parts ended known (sym is ∙ more)).0

pub invariant_of-self : goal.invariant_of-self
invariant_of-self c = record {
  core = rw c.push_back_reserved.ensures.items (IsCore-after_piece (core_view c.self.inside) c.args.len c.args.instant c.self.invariant.core
      (ap (λ core. core.ended) c.self.view_is ∙ running c.args.self.now.ended _ c.is_over.result c.is_over.ensures c.in_ok-with_piece.ensures.bounds.3)
      (subst (λ core. kept_count core < 1024) (sym c.self.view_is) c.requires.room)
      (subst (λ core. core.latest ≤ c.args.instant) (sym c.self.view_is) c.requires.later) c.in_ok-with_piece.ensures.bounds.1
      c.in_ok-with_piece.ensures.bounds.2);
  room = omega (arith, c.push_back_reserved.ensures.capacity, c.self.invariant.room);
  deadline = c.self.invariant.deadline;
}

pub returns : goal.returns
returns c = record {
  answer = search rules;
  taken = search rules;
  output = λ items. rw c.push_back_reserved.ensures.items
      (subst (λ old. remaining_output (after_piece (core_view c.self.inside) c.args.len c.args.instant) items
      ≡ remaining_output old (chunk_from old.bytes (record { len = c.args.len; instant = c.args.instant }) ∷ items)) c.self.view_is
      (output-after_piece (core_view c.self.inside) c.args.len c.args.instant c.self.invariant.core
      (ap (λ core. core.ended) c.self.view_is ∙ running c.args.self.now.ended _ c.is_over.result c.is_over.ensures c.in_ok-with_piece.ensures.bounds.3)
      items));
  err = search rules;
}
