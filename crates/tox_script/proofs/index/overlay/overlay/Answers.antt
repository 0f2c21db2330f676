-- Each turn lays the latest step that is left.
use Rattle.std.proofs.Common.{◌^◌, ◌∙◌, sym}
use Rattle.tox_script.proofs.Overlays.{Descends-whole, IsLaid-last, IsLaid-next, joined_some}
use Rattle.tox_script.proofs.index.overlay.overlay.Goals as goal

pub loop-step-preserved : goal.loop-step-preserved
loop-step-preserved c =
    let turn = c.loop-step in
    rw (c.in_ok-push.ensures.items, c.behind-above.ensures, c.behind-below.ensures)
    (IsLaid-next c.args.upper.now c.args.lower.now turn.steps.items turn.above.now turn.below.now c.in-Some.step turn.invariant
    (joined_some turn.above.now turn.below.now c.in-Some.step (sym c.in-Some.ensures)))

pub returns-clause-found : goal.returns-clause-found
returns-clause-found c =
    let turn = c.loop-step in
    IsLaid-last c.args.upper.now c.args.lower.now turn.steps.items turn.above.now turn.below.now turn.invariant (sym c.joined.ensures ∙ c.in_default.is)

pub returns-clause-descends : goal.returns-clause-descends
returns-clause-descends c =
    let turn = c.loop-step in
    Descends-whole (2 ^ 64) turn.invariant.floor turn.steps.items turn.invariant.down
