-- An answer is one step of the direction.
use Rattle.std.proofs.Common.{◌≡◌, ℕ, List, [], ◌++◌, append-nil, ap, sym, subst, ◌∙◌}
use Rattle.tox_link.specs.declared.direction.unwritten.Unwritten.{Unwritten}
use Rattle.tox_link.specs.declared.link_core.act.Act.{Act}
use Rattle.tox_link.specs.direction.Driven.{begun_by}
use Rattle.tox_link.specs.direction.Follows.{IsHeld}
use Rattle.tox_link.proofs.DriveLemmas.{held-asked, drove-asked, none-begun}
use Rattle.tox_link.proofs.direction.asking.ask.Goals as goal

pub returns-in-Write-clause-drove : goal.returns-in-Write-clause-drove
returns-in-Write-clause-drove g c =
    let decided = c.decide-act in
    let old = c.args.link.now in
    λ left written events.
    drove-asked (g.C.Clock.reported c.args.clock.now) old _ decided.new.core decided.result.1 decided.result.0 left written events c.requires.held
    decided.ensures.answered decided.ensures.carried
    (c.begin.ensures
    ∙ ap (λ (act : Act). record old { core = decided.new.core; unwritten = record { items = old.unwritten.items ++ begun_by act decided.result.1 } })
    (sym c.in-Write.is))

-- an answer that gives no slice leaves the slices
same-items : (old : List Unwritten) (act : Act) (now : ℕ) → begun_by act now ≡ [] → old ≡ old ++ begun_by act now
same-items old act now none = sym (ap (λ begun. old ++ begun) none ∙ append-nil old)

pub returns-in_default-clause-held : goal.returns-in_default-clause-held
returns-in_default-clause-held g c =
    let decided = c.decide-act in
    let old = c.args.link.now in
    let none = none-begun decided.result.0 decided.result.1 (λ slice is. c.in_default.not-Write slice is) in
    subst (λ items. IsHeld (record old { core = decided.new.core; unwritten = record { items = items } }))
    (sym (same-items old.unwritten.items decided.result.0 decided.result.1 none))
    (held-asked old decided.new.core decided.result.1 c.requires.held decided.ensures.answered.kept decided.result.0 decided.ensures.answered.output)

pub returns-in_default-clause-same : goal.returns-in_default-clause-same
returns-in_default-clause-same g c =
    let decided = c.decide-act in
    let none = none-begun decided.result.0 decided.new.core.latest (λ slice is. c.in_default.not-Write slice is) in
    ap (λ items. record c.args.link.now { core = decided.new.core; unwritten = record { items = items } })
    (same-items c.args.link.now.unwritten.items decided.result.0 decided.new.core.latest none)

pub returns-in_default-clause-drove : goal.returns-in_default-clause-drove
returns-in_default-clause-drove g c =
    let decided = c.decide-act in
    let old = c.args.link.now in
    let none = none-begun decided.result.0 decided.result.1 (λ slice is. c.in_default.not-Write slice is) in
    λ left written events.
    drove-asked (g.C.Clock.reported c.args.clock.now) old _ decided.new.core decided.result.1 decided.result.0 left written events c.requires.held
    decided.ensures.answered decided.ensures.carried
    (ap (λ items. record old { core = decided.new.core; unwritten = record { items = items } })
    (same-items old.unwritten.items decided.result.0 decided.result.1 none))
