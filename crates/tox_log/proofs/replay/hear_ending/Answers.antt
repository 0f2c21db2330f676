-- The stream ended so.
use Rattle.std.proofs.Common.{◌≡◌, [], ◌∷◌, ◌++◌, true, append-nil, refl, rules, subst, sym}
use Rattle.tox_log.specs.declared.replay.Verdict.TheVariants.{Faithful, Unfaithful}
use Rattle.tox_time.specs.declared.streams.ending.Ending.TheVariants.{StillOpen}
use Rattle.tox_log.specs.declared.event_line.LogLine.TheVariants.{Last}
use Rattle.tox_log.specs.declared.last_line.LastLine.TheVariants.{Ended}
use Rattle.tox_log.specs.Hearing.{SaysOf}
use Rattle.tox_log.specs.Judging.{Judged}
use Rattle.tox_log.specs.Lines.{IsWritable, line_words}
use Rattle.tox_log.specs.Lateness.{ending_late}
use Rattle.tox_log.proofs.Hearing.{KeepsMore, keeps-none, says-ended, says-open, says-other-end}
use Rattle.tox_log.proofs.replay.hear_ending.Goals as goal

pub returns-in_default-clause-hears : goal.returns-in_default-clause-hears
returns-in_default-clause-hears c = λ start means text writable whole heard at.
    let none : ending_late c.args.reading.now c.args.ending.now ≡ [] = c.in_default.ensures in
    says-ended start means text c.args.hearing.now (record c.args.hearing.now { judge = c.judge_ending.new.judge; verdict = Faithful c.args.ending.now })
    c.args.reading.now c.args.ending.now whole refl refl refl
    (subst (λ more. KeepsMore c.args.hearing.now.late more c.args.hearing.now.late) (sym none) (keeps-none c.args.hearing.now.late)) writable heard
    c.judge_ending.ensures.counts (c.judge_ending.ensures.reports (search rules))

pub returns-in_ok-add-clause-hears : goal.returns-in_ok-add-clause-hears
returns-in_ok-add-clause-hears c = λ start means text writable whole heard at.
    says-ended start means text c.args.hearing.now (record c.args.hearing.now
    { judge = c.judge_ending.new.judge; verdict = Faithful c.args.ending.now; late = c.add.new.self }) c.args.reading.now c.args.ending.now whole refl refl
    refl
    (subst (λ more. KeepsMore c.args.hearing.now.late more c.add.new.self) (sym c.in-Some.ensures) c.in_ok-add.ensures) writable heard
    c.judge_ending.ensures.counts
    (c.judge_ending.ensures.reports (search rules))

pub returns-in-Refused-clause-hears : goal.returns-in-Refused-clause-hears
returns-in-Refused-clause-hears c = λ start means text writable whole heard at.
    says-other-end start means text c.args.hearing.now (record c.args.hearing.now { judge = c.judge_ending.new.judge; verdict = Unfaithful c.args.number })
    c.args.reading.now c.args.ending.now c.args.number whole (c.judge_ending.ensures.refuses (search rules)) writable heard at

pub returns-in-Early-clause-hears : goal.returns-in-Early-clause-hears
returns-in-Early-clause-hears c = λ start means text writable whole heard at.
    let is_open : c.args.ending.now ≡ StillOpen = (c.judge_ending.ensures.early (search rules)).0 in
    subst (λ ending. SaysOf start means (text ++ (line_words (Last (Ended c.args.reading.now ending)) ++ 10 ∷ [])) true
    (record c.args.hearing.now { judge = c.judge_ending.new.judge })) (sym is_open)
    (says-open start means text c.args.hearing.now c.judge_ending.new.judge c.args.reading.now c.requires.going whole (c.judge_ending.ensures.stays means)
    (subst (λ ending. IsWritable (Last (Ended c.args.reading.now ending))) is_open writable) heard)

pub returns-in-Early-clause-judges : goal.returns-in-Early-clause-judges
returns-in-Early-clause-judges c = λ means events judged unfinished.
    subst (Judged means (λ reading. true) c.judge_ending.new.judge) (sym (append-nil events))
    (c.judge_ending.ensures.stays means (λ reading. true) events judged)
