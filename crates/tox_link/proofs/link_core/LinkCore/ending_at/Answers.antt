-- Past the deadline nothing changes, and before it the link hasn't ended.
use Rattle.std.proofs.Common.{◌≡◌, inl, [], ◌∷◌, refl, ap, sym, subst, ◌∙◌, rules}
use Rattle.tox_link.specs.link_core.Core.{CoreView, IsEmptied, Settled, remaining_output}
use Rattle.tox_link.specs.link_core.CoreInside.{core_view}
use Rattle.tox_time.specs.streams.Table.{final_of}
use Rattle.tox_plan.specs.Unended.{IsBeforeDeadline}
use Rattle.tox_link.proofs.ActLemmas.{after_quiet, output-emptied, settled-quiet, settled-still, unknown-runner}
use Rattle.tox_link.proofs.link_core.LinkCore.ending_at.Goals as goal

pub returns-in_err-deadline-clause-settled : goal.returns-in_err-deadline-clause-settled
returns-in_err-deadline-clause-settled c =
    subst (λ core. Settled core core c.args.now) c.self.view_is
    (settled-still (core_view c.self.inside) c.args.now c.self.invariant.core (subst IsEmptied (sym c.self.view_is) c.requires.emptied)
    (ap (λ core. core.end) c.self.view_is ∙ c.requires.end)
    (λ idle finished. absurd (let known = c.in_default.ensures.known.1 (idle, inl finished) in cc))
    (subst (IsBeforeDeadline c.args.now) (sym c.in_err-deadline.was ∙ c.self.invariant.deadline) tt)
    (c.in_default.ensures.unended refl))

pub returns-then-lt-clause-settled : goal.returns-then-lt-clause-settled
returns-then-lt-clause-settled c =
    subst (λ core. Settled core core c.args.now) c.self.view_is
    (settled-still (core_view c.self.inside) c.args.now c.self.invariant.core (subst IsEmptied (sym c.self.view_is) c.requires.emptied)
    (ap (λ core. core.end) c.self.view_is ∙ c.requires.end)
    (λ idle finished. absurd (let known = c.in_default.ensures.known.1 (idle, inl finished) in cc))
    (subst (IsBeforeDeadline c.args.now) (sym c.in_ok-deadline.was ∙ c.self.invariant.deadline) (search rules))
    (c.in_default.ensures.unended refl))

pub returns-clause-settled : goal.returns-clause-settled
returns-clause-settled c =
    let core : CoreView = core_view c.self.inside in
    rw c.quiet.ensures.ended
    (subst (λ old. Settled old (after_quiet core c.quiet.result) c.args.now) c.self.view_is
    (settled-quiet core c.quiet.result (subst IsEmptied (sym c.self.view_is) c.requires.emptied) (ap (λ core. core.end) c.self.view_is ∙ c.requires.end)
    (unknown-runner core (sym c.in_default.ensures.value)) c.args.now c.in_ok-deadline.deadline (sym c.self.invariant.deadline ∙ c.in_ok-deadline.was)
    (search rules)
    c.quiet.ensures.deadline))

pub returns-in-Some-clause-only : goal.returns-in-Some-clause-only
returns-in-Some-clause-only c =
    let emptied = subst IsEmptied (sym c.self.view_is) c.requires.emptied in
    λ items. subst (λ core. remaining_output core items ≡ final_of c.in-Some.ending ∷ []) c.self.view_is
    (output-emptied (core_view c.self.inside) emptied (ap (λ core. core.end) c.self.view_is ∙ c.requires.end) items ∙ c.in-Some.ensures.only items)
