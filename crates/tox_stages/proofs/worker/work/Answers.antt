-- The items that a worker takes one after another.
use Rattle.std.proofs.Common.{◌≡◌, [], ◌++◌, true, false, ap, sym, ◌∙◌, rules, arith}
use Rattle.rtrb.specs.Ring.{sent}
use Rattle.tox_time.specs.streams.Stream.{is_final}
use Rattle.tox_time.specs.streams.StreamPosition.{fits, position_after}
use Rattle.tox_defs.specs.stage.Stage.{Staged, reaction_of, taken}
use Rattle.tox_stages.proofs.Places.{grows}
use Rattle.tox_stages.proofs.Working.{worked_on, worked_all, misfits}
use Rattle.tox_stages.proofs.worker.work.Goals as goal

pub returns-then-not-may_take-clause-flow : goal.returns-then-not-may_take-clause-flow
returns-then-not-may_take-clause-flow g c =
    misfits _ _ _ c.loop-nth.stage c.pop_waiting-item.result _ _ _ c.loop-nth.invariant.worked (sym c.may_take.ensures ∙ c.if-not-may_take.true)
    c.pop_waiting-item.ensures.received

pub returns-then-is_last-clause-flow : goal.returns-then-is_last-clause-flow
returns-then-is_last-clause-flow g c =
    worked_all c.new-stage.result _ _ c.loop-nth.stage c.pop_waiting-item.result _ _ _ c.loop-nth.invariant.worked
    (sym c.is_final-is_last.ensures ∙ c.if-is_last.true)
    (ap reaction_of c.new-stage.ensures.first ∙ c.new-stage.ensures.reacts)
    c.pop_waiting-item.ensures.received
    (c.emit_all.ensures.sent ∙ ap (λ (stage : Staged). sent c.loop-nth.producer ++ stage.pending) c.take.ensures)

pub loop-nth-preserved : goal.loop-nth-preserved
loop-nth-preserved g c =
    let stage = c.loop-nth.stage in
    let item = c.pop_waiting-item.result in
    let fit : fits stage.place item ≡ true = sym c.may_take.ensures ∙ c.if-not-may_take.false in
    let chunk : is_final item ≡ false = sym c.is_final-is_last.ensures ∙ c.if-is_last.false in
    let is : c.emit_all.new.stage ≡ record (taken stage item) { pending = [] } = c.emit_all.ensures.stage
    ∙ ap (λ (one : Staged). record one { pending = [] }) c.take.ensures in
    let grown = grows stage.place item fit chunk in
    let position : c.emit_all.new.stage.place.position ≡ (position_after stage.place item).position = ap (λ (one : Staged). one.place.position) is in
    record {
      same_consumer = search rules;
      same_producer = search rules;
      worked = worked_on c.new-stage.result _ _ stage item _ _ _ c.loop-nth.invariant.worked chunk is c.pop_waiting-item.ensures.received
          (c.emit_all.ensures.sent ∙ ap (λ (one : Staged). sent c.loop-nth.producer ++ one.pending) c.take.ensures);
      counted = omega (arith, grown.0, position, c.loop-nth.invariant.counted);
      bounded = omega (arith, grown.1, position);
    }
