-- One answer after another.
use Rattle.std.proofs.Common.{refl, ◌∙◌, arith}
use Rattle.tox_link.proofs.DriveLemmas.{drove-less, drove-none, drove-then, same-on}
use Rattle.tox_link.proofs.direction.asking.ask_further.Goals as goal

pub loop-init : goal.loop-init
loop-init g c = record {
  held = c.requires.held;
  begun = c.requires.begun;
  reported = c.requires.read;
  same = refl;
  ended = refl;
  drove = λ left written events. drove-none (g.C.Clock.reported c.args.clock.now) c.args.link.now _;
}

pub returns-in_default : goal.returns-in_default
returns-in_default g c = record {
  held = c.ask.ensures.held;
  begun = c.ask.ensures.begun;
  reported = c.ask.ensures.reported;
  same = same-on c.args.link.now c.loop.link c.ask.new.link _ c.loop.invariant.same c.ask.ensures.same;
  ended = c.ask.ensures.answered.kept.ended ∙ c.loop.invariant.ended;
  drove = λ left written events.
      drove-less _ 0 (g.C.Clock.reported c.args.clock.now) c.args.link.now c.ask.new.link _ _ (omega arith)
      (drove-then (g.C.Clock.reported c.args.clock.now) 0 _ c.args.link.now c.loop.link c.ask.new.link _ _ _ (c.loop.invariant.drove left written events)
      (c.ask.ensures.drove left written events));
}

pub loop-preserved : goal.loop-preserved
loop-preserved g c = record {
  held = c.ask.ensures.held;
  begun = c.ask.ensures.begun;
  reported = c.ask.ensures.reported;
  same = same-on c.args.link.now c.loop.link c.ask.new.link _ c.loop.invariant.same c.ask.ensures.same;
  ended = c.ask.ensures.answered.kept.ended ∙ c.loop.invariant.ended;
  drove = λ left written events.
      drove-less _ 0 (g.C.Clock.reported c.args.clock.now) c.args.link.now c.ask.new.link _ _ (omega arith)
      (drove-then (g.C.Clock.reported c.args.clock.now) 0 _ c.args.link.now c.loop.link c.ask.new.link _ _ _ (c.loop.invariant.drove left written events)
      (c.ask.ensures.drove left written events));
}
