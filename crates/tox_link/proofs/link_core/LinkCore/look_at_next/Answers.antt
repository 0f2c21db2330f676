-- The first waiting piece is with the runner, or was refused since the runner is over.
use Rattle.std.proofs.Common.{◌≡◌, Err, ap, sym, subst, ◌∙◌, arith}
use Rattle.tox_plan.specs.RunnerView.{offer_answer}
use Rattle.tox_link.specs.link_core.Core.{CoreView, Looked}
use Rattle.tox_link.specs.link_core.CoreInside.{core_view}
use Rattle.tox_link.proofs.Looks.{Cuts, Offers, cuts_of, after_cut, after_offer, after_refusal, looked-both, looked-offer, looked-cut, looked-refusal}
use Rattle.tox_link.proofs.Looks.{taken-running, IsCore-after_refusal}
use Rattle.tox_link.proofs.link_core.LinkCore.look_at_next.Goals as goal

-- what the refused offer was answered
refused : (c : goal.In_default-offer) → offer_answer c.self.inside.runner c.in-Some.piece.len c.in-Some.piece.instant ≡ Err c.in_default-offer.field-0
refused c = sym c.in_default-offer.ensures.answer

pub invariant_of-self-in_default-offer : goal.invariant_of-self-in_default-offer
invariant_of-self-in_default-offer c =
    rw c.in_default-offer.ensures.err (record {
      core = IsCore-after_refusal (core_view c.self.inside) c.in-Some.piece c.take_front.new.ring.items c.in_default-offer.field-0 c.self.invariant.core
          (ap (λ core. core.runner.idle) c.self.view_is ∙ c.requires.drained.idle) c.in-Some.ensures.items (refused c);
      room = omega (arith, c.self.invariant.room, c.take_front.ensures.capacity);
      deadline = c.self.invariant.deadline;
    })

pub returns-in_default-offer-clause-looked : goal.returns-in_default-offer-clause-looked
returns-in_default-offer-clause-looked c =
    rw c.in_default-offer.ensures.err
    (subst (λ old. Looked old (after_refusal (core_view c.self.inside) c.in-Some.piece c.take_front.new.ring.items c.in_default-offer.field-0)) c.self.view_is
    (looked-refusal (core_view c.self.inside) c.in-Some.piece c.take_front.new.ring.items c.in_default-offer.field-0 c.self.invariant.core
    (ap (λ core. core.runner.idle) c.self.view_is ∙ c.requires.drained.idle) c.in-Some.ensures.items (refused c)))

-- the runner took the piece
offers : (c : goal.After-self-1) → Offers (core_view c.self.inside) c.offer.new.self c.in-Some.piece c.take_front.new.ring.items
offers c = record {
  waiting = c.in-Some.ensures.items;
  unfound = ap (λ core. core.found) c.self.view_is ∙ c.requires.found;
  idle = ap (λ core. core.runner.idle) c.self.view_is ∙ c.requires.drained.idle;
  running = taken-running c.self.inside.runner c.in-Some.piece.len c.in-Some.piece.instant c.in-Ok.ensures.answer;
  busy = ap (λ runner. runner.idle) c.in-Ok.ensures.offered;
  position = ap (λ runner. runner.position) c.in-Ok.ensures.offered;
  offered = ap (λ runner. runner.piece) c.in-Ok.ensures.offered;
  latest = ap (λ runner. runner.latest) c.in-Ok.ensures.offered;
  gives = c.in-Ok.ensures.to_come;
  drawing = ap (λ runner. runner.drawing) c.in-Ok.ensures.offered;
  finished = ap (λ runner. runner.finished) c.in-Ok.ensures.offered;
  cursors = ap (λ runner. runner.cursors) c.in-Ok.ensures.offered;
  counted = ap (λ runner. runner.cuts) c.in-Ok.ensures.offered;
}

-- and was asked for its next cut
cuts : (c : goal.After-self-1) → Cuts c.offer.new.self c.next_cut-self-inside.new.self c.next_cut-self-inside.result
cuts c =
    let reported = c.next_cut-self-inside.ensures in
    cuts_of c.offer.new.self c.next_cut-self-inside.new.self c.next_cut-self-inside.result reported.some reported.none reported.idle reported.kept

pub returns-clause-looked : goal.returns-clause-looked
returns-clause-looked c =
    let old : CoreView = core_view c.self.inside in
    let middle : CoreView = after_offer old c.offer.new.self c.in-Some.piece c.take_front.new.ring.items in
    let new : CoreView = after_cut middle c.next_cut-self-inside.new.self c.next_cut-self-inside.result in
    subst (λ old. Looked old new) c.self.view_is
    (looked-both old middle new (looked-offer old c.offer.new.self c.in-Some.piece c.take_front.new.ring.items (offers c))
    (looked-cut middle c.next_cut-self-inside.new.self c.next_cut-self-inside.result (cuts c) (offers c).unfound (offers c).busy))
