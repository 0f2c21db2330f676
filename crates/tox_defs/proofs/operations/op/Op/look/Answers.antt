-- A rest outside the time leaves whole, and else each operation finds what the look of its toxic finds.
use Rattle.std.proofs.Common.{◌*◌, ◌∙◌, [], sym}
use Rattle.tox_words.specs.Draw.{draws_of}
use Rattle.tox_defs.specs.stage.Reaction.{counted}
use Rattle.tox_defs.specs.toxics.Bandwidth.{pace_gives}
use Rattle.tox_defs.specs.toxics.Latency.{delay_op_gives}
use Rattle.tox_defs.specs.toxics.Slicer.{slicer_gives}
use Rattle.tox_defs.proofs.Windows.{finds_inside}
use Rattle.tox_defs.proofs.operations.op.Op.look.Goals as goal

pub returns-in-Slow-clause-finds : goal.returns-in-Slow-clause-finds
returns-in-Slow-clause-finds c =
    λ items. rw c.in-Slow.is (c.look-in-Slow.ensures.finds (1000 * c.in-Slow.millis) c.args.state.now items c.requires.running)

pub returns-in-Cutoff-clause-finds : goal.returns-in-Cutoff-clause-finds
returns-in-Cutoff-clause-finds c = λ items. rw c.in-Cutoff.is (c.look-in-Cutoff.ensures.finds c.args.state.now items c.requires.running)

pub returns-in-Limit-clause-finds : goal.returns-in-Limit-clause-finds
returns-in-Limit-clause-finds c = λ items. rw c.in-Limit.is (c.look-in-Limit.ensures.finds items)

pub returns-else-is_outside-clause-finds : goal.returns-else-is_outside-clause-finds
returns-else-is_outside-clause-finds c =
    let giving = delay_op_gives c.in-Delay.fixed c.in-Delay.latency c.in-Delay.jitter (draws_of c.args.drawing.now c.in-Delay.lane) in
    λ items. rw c.in-Delay.is (finds_inside c.in-Delay.from c.in-Delay.until (counted giving) c.args.state.now c.args.rest.now c.look.result
    (sym c.is_outside.ensures ∙ c.if-is_outside.false) (c.look.ensures.finds []) items)

pub returns-else-is_outside-2-clause-finds : goal.returns-else-is_outside-2-clause-finds
returns-else-is_outside-2-clause-finds c =
    λ items. rw c.in-Pace.is (finds_inside c.in-Pace.from c.in-Pace.until (counted (pace_gives c.in-Pace.rate)) c.args.state.now c.args.rest.now
    c.look-in-Pace.result (sym c.is_outside-in-Pace.ensures ∙ c.if-is_outside-2.false) (c.look-in-Pace.ensures.finds []) items)

pub returns-else-is_outside-3-clause-finds : goal.returns-else-is_outside-3-clause-finds
returns-else-is_outside-3-clause-finds c =
    let giving = slicer_gives c.in-Slicing.average c.in-Slicing.variation c.in-Slicing.micros (draws_of c.args.drawing.now c.in-Slicing.lane) in
    λ items. rw c.in-Slicing.is (finds_inside c.in-Slicing.from c.in-Slicing.until (counted giving) c.args.state.now c.args.rest.now c.look-in-Slicing.result
    (sym c.is_outside-in-Slicing.ensures ∙ c.if-is_outside-3.false) (c.look-in-Slicing.ensures.finds []) items)

pub returns-in-Halt-clause-finds : goal.returns-in-Halt-clause-finds
returns-in-Halt-clause-finds c = λ items. rw c.in-Halt.is (c.look-in-Halt.ensures.finds items)
