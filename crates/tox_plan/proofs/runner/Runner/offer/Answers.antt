-- An accepted offer keeps what holds of a runner.
use Rattle.std.proofs.Common.{ap, sym, ◌∙◌, arith}
use Rattle.tox_plan.specs.RunnerInside.{runner_view}
use Rattle.tox_defs.specs.operations.Look.{as_chunk}
use Rattle.tox_plan.specs.RunnerView.{next_piece}
use Rattle.tox_plan.proofs.Givens.{given-offer}
use Rattle.tox_plan.proofs.Offering.{IsRunning-after_offer, to_come-after_offer}
use Rattle.tox_plan.proofs.RunnerOutput.{idle-drained, none_of}
use Rattle.tox_plan.proofs.CursorLemmas.{drained-at}
use Rattle.tox_plan.proofs.runner.Runner.offer.Goals as goal

pub invariant_of-self : goal.invariant_of-self
invariant_of-self c =
    rw c.after_offer-self-inside.ensures
    (IsRunning-after_offer (runner_view c.self.inside) c.args.len c.args.instant c.self.invariant
    (ap (λ runner. runner.idle) c.self.view_is ∙ c.requires) (sym c.ending.ensures
    ∙ none_of c.ending.result (sym c.is_some.ensures ∙ c.in_ok-with_piece.ensures.bounds.3))
    c.in_ok-with_piece.ensures.bounds.1 (omega (arith, c.self.invariant.few, c.in_ok-with_piece.ensures.bounds.2)))

pub returns-clause-to_come : goal.returns-clause-to_come
returns-clause-to_come c =
    rw (c.after_offer-self-inside.ensures, ← c.self.view_is)
    (to_come-after_offer (runner_view c.self.inside) c.args.len c.args.instant c.self.invariant
    (ap (λ runner. runner.idle) c.self.view_is ∙ c.requires) (sym c.ending.ensures
    ∙ none_of c.ending.result (sym c.is_some.ensures ∙ c.in_ok-with_piece.ensures.bounds.3))
    c.in_ok-with_piece.ensures.bounds.1)

pub returns-clause-given : goal.returns-clause-given
returns-clause-given c = given-offer c.args.self.now _ (as_chunk (next_piece c.args.self.now c.args.len c.args.instant))
    (ap (λ runner. runner.drawing) c.self.view_is) (returns-clause-to_come c)

pub returns-clause-unread : goal.returns-clause-unread
returns-clause-unread c =
    sym (drained-at _ c.self.inside.cursors.items c.self.inside.piece
    (idle-drained (runner_view c.self.inside) c.self.invariant (ap (λ runner. runner.idle) c.self.view_is ∙ c.requires)
    (sym c.ending.ensures ∙ none_of c.ending.result (sym c.is_some.ensures ∙ c.in_ok-with_piece.ensures.bounds.3))))
