-- Nothing is left to say but the ending.
use Rattle.std.proofs.Common.{◌≡◌, true, false, None, [], is_some, not, ap, sym, subst, ◌∙◌}
use Rattle.tox_time.specs.declared.streams.ending.Ending.TheVariants.{StillOpen}
use Rattle.tox_plan.specs.OpCursors.{ops_of}
use Rattle.tox_log.specs.Judging.{FollowsWith}
use Rattle.tox_log.proofs.Judging.{ended-reports, not-some}
use Rattle.tox_log.proofs.RefusingEndings.{report-ended, report-ending, report-open, report-whole}
use Rattle.tox_log.proofs.judge.judge_ending.Goals as goal
use Rattle.tox_log.proofs.judge.judge_ending.Goals.{then-judge, else-judge}

pub returns-in_default-clause-stays : goal.returns-in_default-clause-stays
returns-in_default-clause-stays c = λ means reported log judged.
    subst (λ said. FollowsWith means reported c.look.new.judge [] said log) (sym c.look.ensures.counts.3)
    (c.look.ensures.stays means reported [] c.args.judge.now.said log judged)

pub returns-then-is_end-clause-stays : goal.returns-then-is_end-clause-stays
returns-then-is_end-clause-stays c = λ means reported log judged.
    subst (λ said. FollowsWith means reported c.look.new.judge [] said log) (sym c.look.ensures.counts.3)
    (c.look.ensures.stays means reported [] c.args.judge.now.said log judged)

pub returns-else-is_end-clause-stays : goal.returns-else-is_end-clause-stays
returns-else-is_end-clause-stays c = λ means reported log judged.
    subst (λ said. FollowsWith means reported c.look.new.judge [] said log) (sym c.look.ensures.counts.3)
    (c.look.ensures.stays means reported [] c.args.judge.now.said log judged)

pub returns-then-is_end-clause-reports : goal.returns-then-is_end-clause-reports
returns-then-is_end-clause-reports c = λ yes.
    let is = c.is_end.ensures.0 c.if-is_end.true in
    let only = c.in-Some.ensures.only in
    ended-reports c.args.judge.now c.look.new.judge c.args.ending.now c.args.reading.now c.look.ensures.stays c.look.ensures.counts.0 c.look.ensures.counts.1
    c.look.ensures.counts.2 is.0
    (λ items. rw (sym is.1) (only items)) is.2

pub returns-in_default-clause-refuses : goal.returns-in_default-clause-refuses
returns-in_default-clause-refuses c = λ no means reported log judged taken written source report.
    let judge = c.args.judge.now in
    let all = c.look.ensures.all (report-whole means reported judge log judged report.whole) in
    let unended = all.1 (sym c.in_default.ensures.value) in
    let ops = ops_of c.look.new.judge.core.runner.cursors in
    let is_open : c.args.ending.now ≡ StillOpen = report-open means reported judge c.look.new.judge log taken written c.args.ending.now source
    c.args.reading.now c.requires.fits c.look.ensures.stays c.look.ensures.counts.1 judged report ops unended in
    let unsaid : c.if-judge.judge_unknown ≡ false = c.judge_unknown.ensures.refuses.0 no is_open in
    let none : c.look.new.judge.rest ≡ None = all.0 in
    let closes : c.look.new.judge.opens ≡ false =
    elim c.if-judge.branch [
      | then-judge w ↦ absurd (let both : false ≡ true = sym (ap is_some none) ∙ w.is_none.ensures ∙ ap not (sym w.judge_unknown-is ∙ unsaid) in cc)
      | else-judge w ↦ w.if-judge.false
    ] in
    report-ended means reported judge c.look.new.judge log taken written c.args.ending.now source c.args.reading.now c.requires.fits c.look.ensures.stays
    c.look.ensures.counts.1 judged report ops unended
    (sym c.look.ensures.held.opens ∙ closes)

pub returns-else-is_end-clause-refuses : goal.returns-else-is_end-clause-refuses
returns-else-is_end-clause-refuses c = λ no means reported log judged taken written source report.
    let judge = c.args.judge.now in
    let all = c.look.ensures.all (report-whole means reported judge log judged report.whole) in
    let same = report-ending means reported judge c.look.new.judge log taken written c.args.ending.now source c.args.reading.now c.requires.fits
    c.look.ensures.stays c.look.ensures.counts.1 judged report c.in-Some.last c.in-Some.ensures.only in
    let yes : c.is_end.result ≡ true = c.is_end.ensures.1 (all.0, same, report.reached) in
    let no : c.is_end.result ≡ false = c.if-is_end.false in
    absurd (cc)

pub returns-in_default-clause-early : goal.returns-in_default-clause-early
returns-in_default-clause-early c = λ early.
    let is = c.judge_unknown.ensures.early.0 early in
    elim c.if-judge.branch [
      | then-judge w ↦ (
        is.0,
        record {
          said = not-some c.look.new.judge.rest (w.is_none.ensures ∙ ap not (sym w.judge_unknown-is ∙ is.1));
          unknown = sym c.in_default.ensures.value;
          opens = sym c.look.ensures.held.opens ∙ w.if-judge.true;
        },
      )
      | else-judge w ↦ absurd (let no : true ≡ false = sym is.1 ∙ w.judge_unknown-is ∙ w.if-judge.false in cc)
    ]
