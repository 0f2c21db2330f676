-- What the core says is one step of the link.
use Rattle.std.proofs.Common.{rules, ◌≡◌, [], refl, ap, subst, sym}
use Rattle.std.proofs.lemmas.Result.{err_from_is_err_and}
use Rattle.rtrb.specs.Ring.{received}
use Rattle.tox_link.specs.declared.link_core.act.Act.{Act}
use Rattle.tox_link.specs.declared.link_core.act.Act.TheVariants.{Write, WaitUntil, WaitForInput, End}
use Rattle.tox_link.specs.declared.ring.inbox.Inbox.{Inbox}
use Rattle.tox_link.specs.declared.carrying.writer_side.WriterSide.{WriterSide}
use Rattle.tox_link.specs.link_core.Acts.{After}
use Rattle.tox_link.specs.log.Carried.{ReadsOn}
use Rattle.tox_link.specs.carrying.Side.{IsSound}
use Rattle.tox_link.proofs.Logs.{events-none}
use Rattle.tox_link.proofs.LoggedLemmas.{ended-so, logged-act, cut-here, cut-within}
use Rattle.tox_link.proofs.SideLemmas.{sound-waited}
use Rattle.tox_link.proofs.carrying.driving.act.Goals as goal
use Rattle.tox_link.proofs.carrying.driving.act.Goals.{in-Some-idle, in_default-idle}

pub returns-in_err-write_next-in-Write-clause-broken : goal.returns-in_err-write_next-in-Write-clause-broken
returns-in_err-write_next-in-Write-clause-broken g c =
    let p = err_from_is_err_and c.from_residual.result c.from_residual.ensures.1 in
    let answered = c.decide-act.ensures.answered in
    let takes = subst (λ (act : Act). After c.args.side.now.core c.decide-act.result.1 act c.decide-act.new.core) c.in-Write.is answered.output in
    let reported = g.C.Clock.reported c.args.clock.now in
    let reads : ReadsOn reported c.args.side.now.core.latest c.write_next.new.side.core.latest = search rules in
    rw (p.1, p.2) (record {
      at = c.in_err-write_next-in-Write.ensures.fault;
      cuts = cut-within reported c.args.side.now c.decide-act.new.core c.in-Write.slice _ takes.1 answered.kept.bytes c.write_next.ensures.few;
      reads = reads;
      unnoted = c.in_err-write_next-in-Write.ensures.unnoted;
    })

pub returns-in_ok-write_next-in-Write-clause-log : goal.returns-in_ok-write_next-in-Write-clause-log
returns-in_ok-write_next-in-Write-clause-log g c =
    let same = c.write_next.ensures.same in
    record {
      more = _;
      noted = c.in_ok-write_next-in-Write.ensures.ok.3;
      keeps = logged-act (g.C.Clock.reported c.args.clock.now) c.args.side.now c.write_next.new.side c.decide-act.new.core c.decide-act.result.0
          (Write c.in-Write.slice) c.decide-act.result.1 c.decide-act.ensures.carried c.in-Write.is same.0 same.2;
    }

pub returns-in_default-clause-ok : goal.returns-in_default-clause-ok
returns-in_default-clause-ok g c =
    let answered = c.decide-act.ensures.answered in
    let leaves = subst (λ (act : Act). After c.args.side.now.core c.decide-act.result.1 act c.decide-act.new.core) c.in-WaitUntil.is answered.output in
    (sound-waited c.args.side.now c.args.side.now.inbox c.decide-act.new.core _ c.requires.sound answered.kept leaves.1.position, c.requires.working, tt)

pub returns-in_default-clause-log : goal.returns-in_default-clause-log
returns-in_default-clause-log g c = record {
  more = [];
  noted = events-none (g.N.Notes.events c.args.notes.now);
  keeps = logged-act (g.C.Clock.reported c.args.clock.now) c.args.side.now _ c.decide-act.new.core c.decide-act.result.0 (WaitUntil c.in-WaitUntil.instant)
      c.decide-act.result.1 c.decide-act.ensures.carried c.in-WaitUntil.is refl refl;
}

pub returns-in_err-rest-in-WaitUntil-clause-broken : goal.returns-in_err-rest-in-WaitUntil-clause-broken
returns-in_err-rest-in-WaitUntil-clause-broken g c =
    let p = err_from_is_err_and c.from_residual-in_err-rest-in-WaitUntil.result c.from_residual-in_err-rest-in-WaitUntil.ensures.1 in
    let reported = g.C.Clock.reported c.args.clock.now in
    let reads : ReadsOn reported c.args.side.now.core.latest c.decide-act.new.core.latest = search rules in
    rw (p.1, p.2) (record {
      at = c.in_err-rest-in-WaitUntil.ensures.fault;
      cuts = cut-here reported c.args.side.now c.args.side.now.written c.requires.sound.written;
      reads = reads;
      unnoted = refl;
    })

pub returns-in_ok-rest-in-WaitUntil-clause-ok : goal.returns-in_ok-rest-in-WaitUntil-clause-ok
returns-in_ok-rest-in-WaitUntil-clause-ok g c =
    let answered = c.decide-act.ensures.answered in
    let leaves = subst (λ (act : Act). After c.args.side.now.core c.decide-act.result.1 act c.decide-act.new.core) c.in-WaitUntil.is answered.output in (
      sound-waited c.args.side.now c.args.side.now.inbox c.decide-act.new.core _ c.requires.sound answered.kept leaves.1.position,
      c.in_ok-rest-in-WaitUntil.ensures.ok,
      tt,
    )

pub returns-in_ok-rest-in-WaitUntil-clause-log : goal.returns-in_ok-rest-in-WaitUntil-clause-log
returns-in_ok-rest-in-WaitUntil-clause-log g c = record {
  more = [];
  noted = events-none (g.N.Notes.events c.args.notes.now);
  keeps = logged-act (g.C.Clock.reported c.args.clock.now) c.args.side.now _ c.decide-act.new.core c.decide-act.result.0 (WaitUntil c.in-WaitUntil.instant)
      c.decide-act.result.1 c.decide-act.ensures.carried c.in-WaitUntil.is refl refl;
}

pub returns-after-idle-2-clause-ok : goal.returns-after-idle-2-clause-ok
returns-after-idle-2-clause-ok g c =
    let answered = c.decide-act.ensures.answered in
    let leaves = subst (λ (act : Act). After c.args.side.now.core c.decide-act.result.1 act c.decide-act.new.core) c.in-WaitForInput.is answered.output in
    let waited = λ (inbox : Inbox). sound-waited c.args.side.now inbox c.decide-act.new.core (received c.args.side.now.inbox.receiver) c.requires.sound
    answered.kept leaves.position in
    let sound : IsSound c.match-idle-2.side (received c.match-idle-2.side.inbox.receiver) = elim c.match-idle-2.branch [
      | in-Some-idle w ↦ subst (λ (side : WriterSide). IsSound side (received side.inbox.receiver)) (sym w.side-is)
          (subst (IsSound _) (ap received (sym w.wait.ensures)) (waited w.wait.new.self))
      | in_default-idle w ↦ subst (λ (side : WriterSide). IsSound side (received side.inbox.receiver)) (sym w.side-is) (waited c.args.side.now.inbox)
    ] in
    (sound, c.requires.working, tt)

pub returns-after-idle-2-clause-log : goal.returns-after-idle-2-clause-log
returns-after-idle-2-clause-log g c =
    let same : (c.match-idle-2.side.core ≡ c.decide-act.new.core) × (c.match-idle-2.side.source ≡ c.args.side.now.source) = elim c.match-idle-2.branch [
      | in-Some-idle w ↦ (ap (λ (side : WriterSide). side.core) w.side-is, ap (λ (side : WriterSide). side.source) w.side-is)
      | in_default-idle w ↦ (ap (λ (side : WriterSide). side.core) w.side-is, ap (λ (side : WriterSide). side.source) w.side-is)
    ] in
    record {
      more = [];
      noted = events-none (g.N.Notes.events c.args.notes.now);
      keeps = logged-act (g.C.Clock.reported c.args.clock.now) c.args.side.now c.match-idle-2.side c.decide-act.new.core c.decide-act.result.0 WaitForInput
          c.decide-act.result.1 c.decide-act.ensures.carried c.in-WaitForInput.is same.0 same.1;
    }

pub returns-in-End-clause-ok : goal.returns-in-End-clause-ok
returns-in-End-clause-ok g c =
    let answered = c.decide-act.ensures.answered in
    let leaves = subst (λ (act : Act). After c.args.side.now.core c.decide-act.result.1 act c.decide-act.new.core) c.in-End.is answered.output in (
      sound-waited c.args.side.now c.args.side.now.inbox c.decide-act.new.core _ c.requires.sound answered.kept leaves.position,
      c.requires.working,
      ended-so (g.C.Clock.reported c.args.clock.now) c.args.side.now.core c.decide-act.new.core c.decide-act.result.1 c.decide-act.result.0 c.in-End.ending
          c.args.side.now.ended answered c.in-End.is c.decide-act.ensures.reported.0 c.requires.sound.going,
    )

pub returns-in-End-clause-log : goal.returns-in-End-clause-log
returns-in-End-clause-log g c = record {
  more = [];
  noted = events-none (g.N.Notes.events c.args.notes.now);
  keeps = logged-act (g.C.Clock.reported c.args.clock.now) c.args.side.now _ c.decide-act.new.core c.decide-act.result.0 (End c.in-End.ending)
      c.decide-act.result.1 c.decide-act.ensures.carried c.in-End.is refl refl;
}
