-- A link that didn't start did nothing.
use Rattle.std.proofs.Common.{[], refl}
use Rattle.tox_compile.specs.Meaning.{means}
use Rattle.tox_link.specs.declared.link_fault.LinkFault.TheVariants.{OutOfMemory}
use Rattle.tox_link.proofs.CarryLemmas.{broke-unstarted, cut-nothing, writes-nothing}
use Rattle.tox_link.proofs.Logs.{events-none}
use Rattle.tox_link.proofs.carrying.carry_timed.Goals as goal

pub returns-clause-broken : goal.returns-clause-broken
returns-clause-broken g c =
    record {
      log = [];
      noted = events-none (g.N.Notes.events c.args.notes.now);
      cut_off = cut-nothing (means c.args.plan c.args.words.now) (g.C.Clock.reported c.args.clock.now) _ c.in-Err.ensures.err;
      bytes = [];
      wrote = writes-nothing (g.S.Source.remaining c.args.reader) (g.W.Sink.written c.args.ends.now.writer) _ c.in-Err.ensures.err;
      reset = broke-unstarted (g.C.Clock.reported c.args.clock.now) (g.H.Hangup.calls c.args.ends.now.hangup) _ c.in-Err.ensures.err c.in-Err.ensures.cause;
    }

pub returns-in_default-clause-broken : goal.returns-in_default-clause-broken
returns-in_default-clause-broken g c =
    record {
      log = [];
      noted = events-none (g.N.Notes.events c.args.notes.now);
      cut_off = cut-nothing (means c.args.plan c.args.words.now) (g.C.Clock.reported c.args.clock.now) 0 refl;
      bytes = [];
      wrote = writes-nothing (g.S.Source.remaining c.args.reader) (g.W.Sink.written c.args.ends.now.writer) 0 refl;
      reset = broke-unstarted (g.C.Clock.reported c.args.clock.now) (g.H.Hangup.calls c.args.ends.now.hangup) (OutOfMemory 0) refl refl;
    }
