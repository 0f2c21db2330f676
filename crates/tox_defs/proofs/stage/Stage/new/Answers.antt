-- The operation of a toxic reacts as the toxic does, and the toxic keeps its laws.
use Rattle.std.proofs.Common.{arith, refl}
use Rattle.tox_words.specs.Draw.{draw_in}
use Rattle.tox_defs.proofs.ToxicProofs.{toxic_facts}
use Rattle.tox_defs.proofs.ChainStreams.{toxic_keeps}
use Rattle.tox_defs.proofs.Places.{AllFit-stream}
use Rattle.tox_defs.proofs.stage.Stage.new.Goals as goal

pub returns-clause-reacts : goal.returns-clause-reacts
returns-clause-reacts c = (toxic_facts c.args.toxic).reacts c.args.lane (draw_in c.args.lanes c.args.words.now)

pub returns-clause-law : goal.returns-clause-law
returns-clause-law c = (toxic_facts c.args.toxic).law c.requires.in_range

pub returns-clause-streams : goal.returns-clause-streams
returns-clause-streams c = toxic_keeps c.args.toxic c.requires.in_range

pub returns-clause-takes : goal.returns-clause-takes
returns-clause-takes c = λ items stream few. rw c.start.ensures (AllFit-stream 0 0 items stream (omega (arith, few)))

pub invariant_of-result : goal.invariant_of-result
invariant_of-result c =
    rw (c.new.ensures, c.of.ensures, c.start.ensures)
    (record {
      here = refl;
      within = omega arith;
      few = omega arith;
      counted = λ running. record { chunks = omega arith; pieces = omega arith; passed = omega arith };
      running = λ some none. refl;
      heard = λ some. absurd (omega (arith, some));
      operation = (toxic_facts c.args.toxic).is_op c.args.lane c.requires.in_range;
    })
