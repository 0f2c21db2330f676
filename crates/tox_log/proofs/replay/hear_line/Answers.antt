-- The line is heard, and the judge comes as far as the event.
use Rattle.std.proofs.Common.{◌≡◌, true, [], ◌∷◌, ◌++◌, Some, refl, sym, subst, append-nil, OnOk, rules}
use Rattle.tox_link.specs.declared.notes.LinkEvent.TheVariants.{Piece, SourceEnd, Wrote}
use Rattle.tox_log.specs.declared.event_line.LogLine.TheVariants.{Event, SourceReset, Last}
use Rattle.tox_log.specs.declared.last_line.LastLine.TheVariants.{Broken, Ended}
use Rattle.tox_log.specs.Hearing.{HearsLine}
use Rattle.tox_log.specs.declared.replay.Hearing.{Hearing}
use Rattle.tox_log.specs.Left.{ComesWith, FindsRoom, JudgesWith}
use Rattle.tox_log.specs.Judging.{Judged}
use Rattle.tox_log.specs.LinkLog.{events_in}
use Rattle.tox_log.proofs.Hearing.{says-broken}
use Rattle.tox_log.proofs.replay.hear_line.Goals as goal

pub returns-in-Event-Piece-clause-hears : goal.returns-in-Event-Piece-clause-hears
returns-in-Event-Piece-clause-hears c =
    let is : c.args.line.now ≡ Event (Piece c.in-Event-Piece.len c.in-Event-Piece.instant) = search rules in
    subst (λ line. OnOk c.hear_piece.result (HearsLine c.args.hearing.now line c.args.number c.hear_piece.new.hearing)) (sym is) c.hear_piece.ensures.hears

pub returns-in-Event-SourceEnd-clause-hears : goal.returns-in-Event-SourceEnd-clause-hears
returns-in-Event-SourceEnd-clause-hears c =
    let is : c.args.line.now ≡ Event (SourceEnd c.in-Event-SourceEnd.instant) = search rules in
    subst (λ line. OnOk c.hear_source_end.result (HearsLine c.args.hearing.now line c.args.number c.hear_source_end.new.hearing)) (sym is)
    c.hear_source_end.ensures.hears

pub returns-in-Event-Wrote-clause-hears : goal.returns-in-Event-Wrote-clause-hears
returns-in-Event-Wrote-clause-hears c =
    let is : c.args.line.now ≡ Event (Wrote c.in-Event-Wrote.slice c.in-Event-Wrote.reading) = search rules in
    subst (λ line. OnOk c.hear_wrote.result (HearsLine c.args.hearing.now line c.args.number c.hear_wrote.new.hearing)) (sym is) c.hear_wrote.ensures.hears

pub returns-in-Last-Ended-clause-hears : goal.returns-in-Last-Ended-clause-hears
returns-in-Last-Ended-clause-hears c =
    let is : c.args.line.now ≡ Last (Ended c.in-Last-Ended.reading c.in-Last-Ended.ending) = search rules in
    subst (λ line. OnOk c.hear_ending.result (HearsLine c.args.hearing.now line c.args.number c.hear_ending.new.hearing)) (sym is) c.hear_ending.ensures.hears

pub returns-in-Event-Piece-clause-follows : goal.returns-in-Event-Piece-clause-follows
returns-in-Event-Piece-clause-follows c =
    let is : c.args.line.now ≡ Event (Piece c.in-Event-Piece.len c.in-Event-Piece.instant) = search rules in
    subst (λ line. OnOk c.hear_piece.result (ComesWith c.args.hearing.now line c.hear_piece.new.hearing)) (sym is) c.hear_piece.ensures.follows

pub returns-in-Event-SourceEnd-clause-follows : goal.returns-in-Event-SourceEnd-clause-follows
returns-in-Event-SourceEnd-clause-follows c =
    let is : c.args.line.now ≡ Event (SourceEnd c.in-Event-SourceEnd.instant) = search rules in
    subst (λ line. OnOk c.hear_source_end.result (ComesWith c.args.hearing.now line c.hear_source_end.new.hearing)) (sym is) c.hear_source_end.ensures.follows

pub returns-in-Event-Wrote-clause-follows : goal.returns-in-Event-Wrote-clause-follows
returns-in-Event-Wrote-clause-follows c =
    let is : c.args.line.now ≡ Event (Wrote c.in-Event-Wrote.slice c.in-Event-Wrote.reading) = search rules in
    subst (λ line. OnOk c.hear_wrote.result (ComesWith c.args.hearing.now line c.hear_wrote.new.hearing)) (sym is) c.hear_wrote.ensures.follows

pub returns-in-Last-Broken-clause-hears : goal.returns-in-Last-Broken-clause-hears
returns-in-Last-Broken-clause-hears c =
    let is : c.args.line.now ≡ Last (Broken c.in-Last-Broken.cause c.in-Last-Broken.field-0-1) = search rules in
    let broken : Hearing = record c.args.hearing.now { broken = Some c.in-Last-Broken.cause } in
    subst (λ line. HearsLine c.args.hearing.now line c.args.number broken) (sym is)
    (λ start means text writable whole heard at. says-broken start means text c.args.hearing.now broken c.in-Last-Broken.cause c.in-Last-Broken.field-0-1
    c.requires.going refl refl refl refl refl refl writable heard)

pub returns-in-Event-Piece-clause-judges : goal.returns-in-Event-Piece-clause-judges
returns-in-Event-Piece-clause-judges c =
    let is : c.args.line.now ≡ Event (Piece c.in-Event-Piece.len c.in-Event-Piece.instant) = search rules in
    subst (λ line. OnOk c.hear_piece.result (JudgesWith c.args.hearing.now line c.hear_piece.new.hearing)) (sym is) c.hear_piece.ensures.judges

pub returns-in-Event-SourceEnd-clause-judges : goal.returns-in-Event-SourceEnd-clause-judges
returns-in-Event-SourceEnd-clause-judges c =
    let is : c.args.line.now ≡ Event (SourceEnd c.in-Event-SourceEnd.instant) = search rules in
    subst (λ line. OnOk c.hear_source_end.result (JudgesWith c.args.hearing.now line c.hear_source_end.new.hearing)) (sym is) c.hear_source_end.ensures.judges

pub returns-in-Event-Wrote-clause-judges : goal.returns-in-Event-Wrote-clause-judges
returns-in-Event-Wrote-clause-judges c =
    let is : c.args.line.now ≡ Event (Wrote c.in-Event-Wrote.slice c.in-Event-Wrote.reading) = search rules in
    subst (λ line. OnOk c.hear_wrote.result (JudgesWith c.args.hearing.now line c.hear_wrote.new.hearing)) (sym is) c.hear_wrote.ensures.judges

pub returns-in-Event-Piece-clause-finds_room : goal.returns-in-Event-Piece-clause-finds_room
returns-in-Event-Piece-clause-finds_room c =
    let is : c.args.line.now ≡ Event (Piece c.in-Event-Piece.len c.in-Event-Piece.instant) = search rules in
    subst (λ line. FindsRoom c.args.hearing.now line c.hear_piece.result) (sym is) c.hear_piece.ensures.finds_room

pub returns-in-Last-Broken-clause-judges : goal.returns-in-Last-Broken-clause-judges
returns-in-Last-Broken-clause-judges c = λ means events judged unfinished.
    let is : c.args.line.now ≡ Last (Broken c.in-Last-Broken.cause c.in-Last-Broken.field-0-1) = search rules in
    subst (λ line. Judged means (λ reading. true) c.args.hearing.now.judge (events ++ events_in (line ∷ []))) (sym is)
    (subst (Judged means (λ reading. true) c.args.hearing.now.judge) (sym (append-nil events)) judged)

pub returns-in-SourceReset-clause-hears : goal.returns-in-SourceReset-clause-hears
returns-in-SourceReset-clause-hears c =
    let is : c.args.line.now ≡ SourceReset c.in-SourceReset.instant = search rules in
    subst (λ line. OnOk c.hear_source_end-in-SourceReset.result (HearsLine c.args.hearing.now line c.args.number c.hear_source_end-in-SourceReset.new.hearing))
    (sym is) c.hear_source_end-in-SourceReset.ensures.hears

pub returns-in-SourceReset-clause-follows : goal.returns-in-SourceReset-clause-follows
returns-in-SourceReset-clause-follows c =
    let is : c.args.line.now ≡ SourceReset c.in-SourceReset.instant = search rules in
    subst (λ line. OnOk c.hear_source_end-in-SourceReset.result (ComesWith c.args.hearing.now line c.hear_source_end-in-SourceReset.new.hearing)) (sym is)
    c.hear_source_end-in-SourceReset.ensures.follows

pub returns-in-SourceReset-clause-judges : goal.returns-in-SourceReset-clause-judges
returns-in-SourceReset-clause-judges c =
    let is : c.args.line.now ≡ SourceReset c.in-SourceReset.instant = search rules in
    subst (λ line. OnOk c.hear_source_end-in-SourceReset.result (JudgesWith c.args.hearing.now line c.hear_source_end-in-SourceReset.new.hearing)) (sym is)
    c.hear_source_end-in-SourceReset.ensures.judges

pub returns-in-Last-Ended-clause-follows : goal.returns-in-Last-Ended-clause-follows
returns-in-Last-Ended-clause-follows c =
    let is : c.args.line.now ≡ Last (Ended c.in-Last-Ended.reading c.in-Last-Ended.ending) = search rules in
    subst (λ line. OnOk c.hear_ending.result (ComesWith c.args.hearing.now line c.hear_ending.new.hearing)) (sym is) c.hear_ending.ensures.follows

pub returns-in-Last-Ended-clause-judges : goal.returns-in-Last-Ended-clause-judges
returns-in-Last-Ended-clause-judges c =
    let is : c.args.line.now ≡ Last (Ended c.in-Last-Ended.reading c.in-Last-Ended.ending) = search rules in
    subst (λ line. OnOk c.hear_ending.result (JudgesWith c.args.hearing.now line c.hear_ending.new.hearing)) (sym is) c.hear_ending.ensures.judges
