-- A slow close, a cutoff and a halt give the ending that their files say.
use Rattle.tox_defs.proofs.operations.op.Op.map_ending.Goals as goal

pub returns-in-Slow : goal.returns-in-Slow
returns-in-Slow c = λ draws. rw c.in-Slow.is (c.map_ending.ensures c.args.state.now)

pub returns-in-Cutoff : goal.returns-in-Cutoff
returns-in-Cutoff c = λ draws. rw c.in-Cutoff.is (c.map_ending-in-Cutoff.ensures c.args.state.now)

pub returns-in-Halt : goal.returns-in-Halt
returns-in-Halt c = λ draws. rw c.in-Halt.is (c.map_ending-in-Halt.ensures c.in-Halt.after c.args.state.now)
