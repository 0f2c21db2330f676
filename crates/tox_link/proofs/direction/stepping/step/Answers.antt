-- A slice is written on, or the core is asked.
use Rattle.std.proofs.Common.{arith}
use Rattle.tox_link.proofs.DriveLemmas.{drove-writes, move-one}
use Rattle.tox_link.proofs.direction.stepping.step.Goals as goal

pub returns-in_default-clause-progress : goal.returns-in_default-clause-progress
returns-in_default-clause-progress g c = c.act.ensures.progress (g.W.PollSink.waits c.args.sink.now) (g.W.PollSink.due c.args.sink.now)

pub returns-in-Ok-clause-drove : goal.returns-in-Ok-clause-drove
returns-in-Ok-clause-drove g c =
    let wrote = c.write_on.ensures.wrote in
    drove-writes 1 (g.C.Clock.reported c.args.clock.now) c.args.link.now c.write_on.new.link (g.S.PollSource.remaining c.args.source.now)
    (g.W.PollSink.written c.args.sink.now) (g.W.PollSink.written c.write_on.new.sink)
    (g.N.Notes.events c.args.notes.now) (g.N.Notes.events c.write_on.new.notes) wrote.0 wrote.1 wrote.2 c.write_on.ensures.moved.0
    (omega (arith, wrote.3, move-one c.in-Ok.moved c.write_on.result c.in-Ok.is c.if-moved.true))

pub returns-in-Ok-2-clause-drove : goal.returns-in-Ok-2-clause-drove
returns-in-Ok-2-clause-drove g c =
    let wrote = c.write_on.ensures.wrote in
    drove-writes 0 (g.C.Clock.reported c.args.clock.now) c.args.link.now c.write_on.new.link (g.S.PollSource.remaining c.args.source.now)
    (g.W.PollSink.written c.args.sink.now) (g.W.PollSink.written c.write_on.new.sink)
    (g.N.Notes.events c.args.notes.now) (g.N.Notes.events c.write_on.new.notes) wrote.0 wrote.1 wrote.2 c.write_on.ensures.moved.0 (omega (arith, wrote.3))

pub returns-in-Err-clause-drove : goal.returns-in-Err-clause-drove
returns-in-Err-clause-drove g c =
    let wrote = c.write_on.ensures.wrote in
    drove-writes 0 (g.C.Clock.reported c.args.clock.now) c.args.link.now c.write_on.new.link (g.S.PollSource.remaining c.args.source.now)
    (g.W.PollSink.written c.args.sink.now) (g.W.PollSink.written c.write_on.new.sink)
    (g.N.Notes.events c.args.notes.now) (g.N.Notes.events c.write_on.new.notes) wrote.0 wrote.1 wrote.2 c.write_on.ensures.moved.0 (omega (arith, wrote.3))
