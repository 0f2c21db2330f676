-- One step after another.
use Rattle.std.proofs.Common.{rules, ◌≡◌, ◌+◌, Ok, ap, ◌∙◌, arith}
use Rattle.tox_link.specs.declared.direction.progress.Progress.{Progress}
use Rattle.tox_link.specs.direction.Driven.{steps_of}
use Rattle.tox_link.proofs.DriveLemmas.{drove-enough, drove-less, drove-none, drove-then}
use Rattle.tox_link.proofs.direction.stepping.drive.Goals as goal

pub loop-nth-init : goal.loop-nth-init
loop-nth-init g c = record {
  ready = c.requires.ready;
  ends = λ same. same;
  working = c.requires.working;
  few = omega arith;
  drove =
      drove-none (g.C.Clock.reported c.args.clock.now) c.args.link.now _;
}

pub returns-in-Ok-Waits-clause-drove : goal.returns-in-Ok-Waits-clause-drove
returns-in-Ok-Waits-clause-drove g c =
    let reported = g.C.Clock.reported c.args.clock.now in
    drove-less _ 0 reported c.args.link.now c.step.new.link _ _ (omega arith)
    (drove-then reported _ _ c.args.link.now c.loop-nth.link c.step.new.link _ _ _ c.loop-nth.invariant.drove c.step.ensures.drove)

pub returns-in-Ok-Ended-clause-drove : goal.returns-in-Ok-Ended-clause-drove
returns-in-Ok-Ended-clause-drove g c =
    let reported = g.C.Clock.reported c.args.clock.now in
    drove-less _ 0 reported c.args.link.now c.step.new.link _ _ (omega arith)
    (drove-then reported _ _ c.args.link.now c.loop-nth.link c.step.new.link _ _ _ c.loop-nth.invariant.drove c.step.ensures.drove)

pub returns-in-Err-clause-drove : goal.returns-in-Err-clause-drove
returns-in-Err-clause-drove g c =
    let reported = g.C.Clock.reported c.args.clock.now in
    drove-less _ 0 reported c.args.link.now c.step.new.link _ _ (omega arith)
    (drove-then reported _ _ c.args.link.now c.loop-nth.link c.step.new.link _ _ _ c.loop-nth.invariant.drove c.step.ensures.drove)

pub returns-then-has_done_enough-clause-drove : goal.returns-then-has_done_enough-clause-drove
returns-then-has_done_enough-clause-drove g c =
    let reported = g.C.Clock.reported c.args.clock.now in
    drove-enough _ reported c.args.link.now c.step.new.link _ _ (search rules)
    (drove-then reported _ _ c.args.link.now c.loop-nth.link c.step.new.link _ _ _ c.loop-nth.invariant.drove c.step.ensures.drove)

pub loop-nth-preserved : goal.loop-nth-preserved
loop-nth-preserved g c =
    let reported = g.C.Clock.reported c.args.clock.now in
    let one : steps_of 1 c.step.result ≡ 1 = ap (steps_of 1) c.in-Ok-Again.is
    ∙ ap (λ (progress : Progress). steps_of 1 (Ok progress)) c.in-Ok-Again.field-0-is in
    record {
      ready = c.step.ensures.ready;
      ends = λ same. c.in-Ok-Again.ensures.ends (c.loop-nth.invariant.ends same);
      working = c.in-Ok-Again.ensures.working;
      few = search rules;
      drove = drove-less (c.loop-nth._nth + steps_of 1 c.step.result) (c.loop-nth._nth + 1) reported c.args.link.now c.step.new.link _ _ (omega (arith, one))
          (drove-then reported c.loop-nth._nth (steps_of 1 c.step.result) c.args.link.now c.loop-nth.link c.step.new.link _ _ _ c.loop-nth.invariant.drove
          c.step.ensures.drove);
    }
