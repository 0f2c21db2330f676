-- The event is heard.
use Rattle.std.proofs.Common.{◌≡◌, ◌∙◌, true, false, Some, refl, sym, subst, ◌++◌, ◌∷◌, [], arith, inr, rules}
use Rattle.tox_link.specs.declared.notes.LinkEvent.TheVariants.{SourceEnd}
use Rattle.tox_log.specs.declared.event_line.LogLine.{LogLine}
use Rattle.tox_log.specs.declared.replay.Hearing.{Hearing}
use Rattle.tox_log.specs.EventLines.{logged_line}
use Rattle.tox_log.specs.Hearing.{SaysOf}
use Rattle.tox_log.specs.Lines.{line_words}
use Rattle.tox_log.proofs.Hearing.{keeps-none, says-event, source-ends}
use Rattle.tox_log.proofs.Keeping.{logged-goes}
use Rattle.tox_log.proofs.replay.hear_source_end.Goals as goal

pub returns-clause-hears : goal.returns-clause-hears
returns-clause-hears c = λ start means text writable whole heard at.
    let old = c.args.hearing.now in
    let new : Hearing = record old { judge = c.hear_end.new.judge; source_end = Some c.args.instant.now; source_reset = c.args.is_reset } in
    let going : old.judge.ended ≡ false = search rules in
    let line : LogLine = logged_line c.args.is_reset (SourceEnd c.args.instant.now) in
    subst (λ last. SaysOf start means (text ++ (line_words line ++ 10 ∷ [])) last new) (sym (logged-goes c.args.is_reset (SourceEnd c.args.instant.now)))
    (says-event start means text old new (SourceEnd c.args.instant.now) line refl c.requires.going whole
    (record {
      hears = c.hear_end.ensures.hears;
      reset = inr going;
      ends = λ events _ ended. source-ends events c.args.instant.now (ended ∙ going);
      count =
          omega arith;
      late = keeps-none old.late;
    }) writable heard)

pub returns-clause-judges : goal.returns-clause-judges
returns-clause-judges c = λ means events judged _. c.hear_end.ensures.hears means (λ reading. true) events refl judged
