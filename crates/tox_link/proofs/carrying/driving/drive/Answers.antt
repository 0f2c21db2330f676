-- Each turn is two steps of the link.
use Rattle.std.proofs.Common.{rules, ◌++◌, refl, ap, sym, ◌∙◌}
use Rattle.std.proofs.lemmas.Result.{err_from_is_err_and}
use Rattle.std.specs.Io.KnownBytes.{append_known}
use Rattle.tox_link.proofs.Logs.{events-append}
use Rattle.tox_link.proofs.LoggedLemmas.{logged-read, resets-on, logs-on, cut-here, cuts-on}
use Rattle.tox_link.proofs.SideLemmas.{came-front}
use Rattle.tox_link.proofs.carrying.driving.drive.Goals as goal

pub take_message-requires-clause-read : goal.take_message-requires-clause-read
take_message-requires-clause-read g c =
    let before = c.loop.invariant.log in
    λ _ _. logged-read (g.C.Clock.reported c.args.clock.now) c.args.side.now c.loop.side before.log c.requires.fresh before.logs

pub returns-in_default-clause-broken : goal.returns-in_default-clause-broken
returns-in_default-clause-broken g c =
    let before = c.loop.invariant.log in
    let reported = g.C.Clock.reported c.args.clock.now in
    record {
      at = record { count = refl; cause = c.loop.invariant.working; started = λ n. search rules };
      log = before.log;
      noted = c.in_default.ensures.err.1 ∙ before.noted;
      cuts = cuts-on reported c.args.side.now c.loop.side before.log c.take_message.new.side.written before.logs
          (cut-here reported c.loop.side c.take_message.new.side.written (c.take_message.ensures.same.1 ∙ c.loop.invariant.sound.written));
      reset = resets-on reported c.args.side.now c.loop.side before.log _ c.requires.fresh before.logs c.in_default.ensures.err.0;
    }

pub act-requires-clause-read : goal.act-requires-clause-read
act-requires-clause-read g c =
    let before = c.loop.invariant.log in
    let taken = c.in-Ok.ensures.log in
    let reported = g.C.Clock.reported c.args.clock.now in
    logged-read reported c.args.side.now c.take_message.new.side (before.log ++ taken.more) c.requires.fresh
    (logs-on reported c.args.side.now c.loop.side c.take_message.new.side before.log taken.more before.logs taken.keeps)

pub returns-in_err-ending-clause-broken : goal.returns-in_err-ending-clause-broken
returns-in_err-ending-clause-broken g c =
    let p = err_from_is_err_and c.from_residual.result c.from_residual.ensures.1 in
    let before = c.loop.invariant.log in
    let taken = c.in-Ok.ensures.log in
    let err = c.in_err-ending.ensures.broken in
    let reported = g.C.Clock.reported c.args.clock.now in
    rw (p.1, p.2) (record {
      at = err.at;
      log = before.log ++ taken.more;
      noted = err.unnoted ∙ events-append (g.N.Notes.events c.args.notes.now) (g.N.Notes.events c.loop.notes) (g.N.Notes.events c.take_message.new.notes)
          before.log taken.more before.noted taken.noted;
      cuts = cuts-on reported c.args.side.now c.take_message.new.side (before.log ++ taken.more) c.act.new.side.written
          (logs-on reported c.args.side.now c.loop.side c.take_message.new.side before.log taken.more before.logs taken.keeps) err.cuts;
      reset = resets-on reported c.args.side.now c.take_message.new.side (before.log ++ taken.more) _ c.requires.fresh
          (logs-on reported c.args.side.now c.loop.side c.take_message.new.side before.log taken.more before.logs taken.keeps) err.reads;
    })

pub returns-in-Some-2-clause-log : goal.returns-in-Some-2-clause-log
returns-in-Some-2-clause-log g c =
    let before = c.loop.invariant.log in
    let taken = c.in-Ok.ensures.log in
    let acted = c.in_ok-ending.ensures.log in
    let reported = g.C.Clock.reported c.args.clock.now in
    record {
      log = (before.log ++ taken.more) ++ acted.more;
      noted = events-append (g.N.Notes.events c.args.notes.now) (g.N.Notes.events c.take_message.new.notes) (g.N.Notes.events c.act.new.notes)
          (before.log ++ taken.more) acted.more
          (events-append (g.N.Notes.events c.args.notes.now) (g.N.Notes.events c.loop.notes) (g.N.Notes.events c.take_message.new.notes) before.log taken.more
          before.noted taken.noted) acted.noted;
      logs = logs-on reported c.args.side.now c.take_message.new.side c.act.new.side (before.log ++ taken.more) acted.more
          (logs-on reported c.args.side.now c.loop.side c.take_message.new.side before.log taken.more before.logs taken.keeps) acted.keeps;
    }

pub loop-preserved : goal.loop-preserved
loop-preserved g c =
    let before = c.loop.invariant.log in
    let taken = c.in-Ok.ensures.log in
    let acted = c.in_ok-ending.ensures.log in
    let reported = g.C.Clock.reported c.args.clock.now in
    let base = g.W.Sink.written c.args.writer.now in
    let came = c.take_message.ensures.came in
    record {
      ring = search rules;
      sound = c.in_ok-ending.ensures.ok.0;
      written = c.act.ensures.written base (c.loop.invariant.written ∙ ap (append_known base)
          (sym (came-front c.loop.side c.take_message.new.side came.0 c.loop.invariant.sound c.take_message.ensures.same.1 came.1)));
      working = c.in_ok-ending.ensures.ok.1;
      log = record {
        log = (before.log ++ taken.more) ++ acted.more;
        noted = events-append (g.N.Notes.events c.args.notes.now) (g.N.Notes.events c.take_message.new.notes) (g.N.Notes.events c.act.new.notes)
            (before.log ++ taken.more) acted.more
            (events-append (g.N.Notes.events c.args.notes.now) (g.N.Notes.events c.loop.notes) (g.N.Notes.events c.take_message.new.notes) before.log taken.more
            before.noted taken.noted) acted.noted;
        logs = logs-on reported c.args.side.now c.take_message.new.side c.act.new.side (before.log ++ taken.more) acted.more
            (logs-on reported c.args.side.now c.loop.side c.take_message.new.side before.log taken.more before.logs taken.keeps) acted.keeps;
      };
    }
