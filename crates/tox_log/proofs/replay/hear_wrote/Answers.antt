-- The event is heard.
use Rattle.tox_link.specs.declared.notes.LinkEvent.TheVariants.{Wrote}
use Rattle.std.proofs.Common.{[], ◌∷◌, ◌-◌, ◌∙◌, ap₂, true, refl, arith, inl, rules, subst}
use Rattle.tox_log.specs.declared.event_line.LogLine.TheVariants.{Event}
use Rattle.tox_log.specs.declared.replay.Verdict.TheVariants.{Unfaithful}
use Rattle.tox_log.proofs.Hearing.{KeepsMore, few-writes, says-event, says-refused, source-same, wrote-line}
use Rattle.tox_log.proofs.replay.hear_wrote.Goals as goal

pub returns-clause-hears : goal.returns-clause-hears
returns-clause-hears c = λ start means text writable whole heard at.
    let few = few-writes means text c.args.hearing.now heard in
    says-event start means text c.args.hearing.now (record c.args.hearing.now { judge = c.hear_wrote.new.judge; writes = _; late = c.add.new.self })
    (Wrote c.args.slice.now c.args.reading.now) (Event (Wrote c.args.slice.now c.args.reading.now))
    (wrote-line c.args.hearing.now.source_reset c.args.slice.now c.args.reading.now) c.requires.going whole
    (record {
      hears = c.hear_wrote.ensures.hears (search rules);
      reset = inl refl;
      ends = λ events is _.
          source-same events (Wrote c.args.slice.now c.args.reading.now) refl
          ∙ is;
      count = omega (arith, few);
      late = subst (λ late. KeepsMore c.args.hearing.now.late (late ∷ []) c.add.new.self)
          (c.saturating_sub-late.ensures ∙ ap₂ (λ reading instant. reading - instant) c.get.ensures.value c.get-2.ensures.value) c.in_ok-add.ensures;
    }) writable
    heard

pub returns-then-not-hear_wrote-clause-hears : goal.returns-then-not-hear_wrote-clause-hears
returns-then-not-hear_wrote-clause-hears c = λ start means text writable whole heard at.
    says-refused start means text c.args.hearing.now (record c.args.hearing.now { judge = c.hear_wrote.new.judge; verdict = Unfaithful c.args.number })
    (Wrote c.args.slice.now c.args.reading.now) c.args.number whole (c.hear_wrote.ensures.refuses (search rules)) writable heard at

pub returns-clause-judges : goal.returns-clause-judges
returns-clause-judges c = λ means events judged _. c.hear_wrote.ensures.hears (search rules) means (λ reading. true) events refl judged
