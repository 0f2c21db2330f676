-- The event is heard.
use Rattle.tox_link.specs.declared.notes.LinkEvent.TheVariants.{Piece}
use Rattle.std.proofs.Common.{◌≤◌, ◌∙◌, true, refl, arith, inl, rules}
use Rattle.tox_link.specs.log.Log.{waiting_pieces}
use Rattle.tox_log.specs.declared.event_line.LogLine.TheVariants.{Event}
use Rattle.tox_log.specs.Judging.{Hears}
use Rattle.tox_log.proofs.Hearing.{keeps-none, piece-line, says-event, source-same}
use Rattle.tox_log.proofs.replay.hear_piece.Goals as goal

pub returns-clause-hears : goal.returns-clause-hears
returns-clause-hears c = λ start means text writable whole heard at. says-event start means text c.args.hearing.now
    (record c.args.hearing.now { judge = c.hear_piece.new.judge }) (Piece c.args.len c.args.instant.now) (Event (Piece c.args.len c.args.instant.now))
    (piece-line c.args.hearing.now.source_reset c.args.len c.args.instant.now) c.requires.going whole
    (record {
      hears = search (rules, c.hear_piece.ensures.hears);
      reset = inl refl;
      ends = λ events is _.
          source-same events (Piece c.args.len c.args.instant.now) refl ∙ is;
      count = omega arith;
      late = keeps-none c.args.hearing.now.late;
    }) writable heard

pub returns-clause-judges : goal.returns-clause-judges
returns-clause-judges c = λ means events judged _.
    let hears : Hears c.args.hearing.now.judge (Piece c.args.len c.args.instant.now) c.hear_piece.new.judge = search (rules, c.hear_piece.ensures.hears) in
    hears means (λ reading. true) events refl judged

pub returns-in_default-clause-finds_room : goal.returns-in_default-clause-finds_room
returns-in_default-clause-finds_room c = λ means events judged room.
    let deep : 1_024 ≤ waiting_pieces events = c.in_default.ensures.deep means (λ reading. true) events judged in
    absurd (omega (arith, deep, room.0))
