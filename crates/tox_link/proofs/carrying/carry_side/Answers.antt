-- What was written is the first of what the reader had to give, and the log says so.
use Rattle.std.proofs.Common.{inr, ◌++◌, length-take-le, take, subst, sym, ◌∙◌, arith}
use Rattle.rtrb.specs.Ring.{received}
use Rattle.tox_compile.specs.Meaning.{means}
use Rattle.tox_link.specs.log.Logged.{IsCutOff}
use Rattle.tox_link.specs.ring.Messages.{ReadsFrom}
use Rattle.tox_link.specs.Reports.{ReportsAt, WritesFirst}
use Rattle.tox_link.specs.carrying.Side.{came}
use Rattle.tox_link.specs.Sources.{read_end_of}
use Rattle.tox_link.proofs.CarryLemmas.{first-of, hung-up, link-reports, first-bytes, writes-first, source-reported}
use Rattle.tox_link.proofs.LoggedLemmas.{logged-fresh}
use Rattle.tox_link.proofs.StepLemmas.{says-heard}
use Rattle.tox_link.proofs.carrying.carry_side.Goals as goal

pub returns-in-Ok-clause-carried : goal.returns-in-Ok-clause-carried
returns-in-Ok-clause-carried g c = λ ops words meaning.
    let reported = g.C.Clock.reported c.args.clock.now in
    let plan = means ops words in
    let promise = c.args.thread.promise in
    let given = g.S.Source.remaining promise.reader.value in
    let side = c.drive-driven.new.side in
    let messages = received side.inbox.receiver in
    let logs = rw c.in-Ok.is at c.drive-driven.ensures.log in
    let ended = rw c.in-Ok.is at c.drive-driven.ensures.ok in
    let sound = ended.0 in
    let over = ended.2 in
    let logged = logs.logs plan (logged-fresh plan reported c.args.side.now c.requires.fresh meaning) in
    let joined = c.join_reader-reader in
    let later = received joined.new.receiver in
    let more = c.drain.ensures.received in
    let grown = joined.ensures.received ∙ more.1 in
    let left = joined.ensures.sent in
    let after = g.S.Source.remaining joined.result.0 in
    let failed = g.S.Source.failed joined.result.0 in
    let sent : ReadsFrom given promise.reads (later ++ left.0) joined.result.1 after failed = left.1 in
    let first = first-bytes messages later more.0 left.0 given after promise.reads joined.result.1 failed grown sent in
    record {
      log = logs.log;
      noted = logs.noted;
      reports = subst (ReportsAt plan reported logs.log c.stop.result side.written c.in-Ok.ending (read_end_of side.source)) (sym c.latest.ensures)
          (link-reports plan reported side.core side.ended logs.log c.in-Ok.ending (read_end_of side.source) c.stop.result side.written logged.carried
          logged.closed over sound.written (c.stop.ensures.value ∙ sound.stop));
      of_heard = says-heard plan reported side.core logs.log logged.carried;
      bytes = take side.core.bytes (came side);
      took = length-take-le side.core.bytes (came side) sound.few ∙ sym (c.stop.ensures.value ∙ sound.stop);
      wrote = writes-first given (g.W.Sink.written c.args.ends.now.writer) (g.W.Sink.written c.drive-driven.new.writer) first.0 (came side) side.core.bytes
          side.written (omega (arith, sound.written, sound.within)) sound.few first.1 c.drive-driven.ensures.written;
      source_end = source-reported side messages later more.0 left.0 given after promise.reads joined.result.1 failed sound grown sent;
      messages = messages;
      first = first-of messages later more.0 left.0 given after promise.reads joined.result.1 failed grown sent;
      hung_up = hung-up _ _ side messages c.in-Ok.ending (rw c.in-Ok.is at c.hang_up.ensures.ok) over.stays_open sound;
    }

pub returns-in-Err-clause-broken : goal.returns-in-Err-clause-broken
returns-in-Err-clause-broken g c = λ ops words meaning.
    let reported = g.C.Clock.reported c.args.clock.now in
    let plan = means ops words in
    let promise = c.args.thread.promise in
    let given = g.S.Source.remaining promise.reader.value in
    let side = c.drive-driven.new.side in
    let messages = received side.inbox.receiver in
    let joined = c.join_reader-reader in
    let later = received joined.new.receiver in
    let more = c.drain.ensures.received in
    let left = joined.ensures.sent in
    let after = g.S.Source.remaining joined.result.0 in
    let failed = g.S.Source.failed joined.result.0 in
    let sent : ReadsFrom given promise.reads (later ++ left.0) joined.result.1 after failed = left.1 in
    let err = rw c.in-Err.is at c.drive-driven.ensures.broken in
    let first = first-bytes messages later more.0 left.0 given after promise.reads joined.result.1 failed (joined.ensures.received ∙ more.1) sent in
    record {
      log = err.log;
      noted = err.noted;
      cut_off = subst (λ written. IsCutOff plan reported written err.log) (sym err.at.count)
          (err.cuts plan (logged-fresh plan reported c.args.side.now c.requires.fresh meaning));
      bytes = came side;
      wrote = subst (WritesFirst given (g.W.Sink.written c.args.ends.now.writer) (g.W.Sink.written c.drive-driven.new.writer) (came side)) (sym err.at.count)
          (record { left = first.0; gave = first.1; few = c.drive-driven.ensures.few; wrote = c.drive-driven.ensures.written });
      reset = inr (side.core.latest, rw c.in-Err.is at c.hang_up.ensures.err, err.reset);
    }

pub returns-in-Err-clause-started : goal.returns-in-Err-clause-started
returns-in-Err-clause-started g c = λ n same. (rw c.in-Err.is at c.drive-driven.ensures.broken).at.started n (cc)
