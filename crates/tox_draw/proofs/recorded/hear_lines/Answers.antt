-- Line by line.
use Rattle.std.proofs.Common.{◌≡◌, ◌∙◌, MatchOption, refl, subst}
use Rattle.tox_link.proofs.CarryLemmas.{prepend-nil}
use Rattle.tox_log.specs.Order.{GoesOnWith}
use Rattle.tox_log.specs.Reading.{Hands, to_hand}
use Rattle.tox_draw.proofs.HeardLines.{all-lines, no-line, so-far-line, so-far-none}
use Rattle.tox_draw.proofs.recorded.hear_lines.Goals as goal

pub lines-init : goal.lines-init
lines-init g c =
    let given = to_hand c.args.log.now (g.R.Source.remaining c.args.reader.now) in record {
      works = c.requires.works;
      idle = c.requires.idle;
      same = (refl, refl);
      hears = λ means begins. so-far-none c.args.frame.now means c.args.log.now given c.args.hearing.now c.args.runner.now (prepend-nil given) begins.0
          begins.1;
    }

pub lines-preserved : goal.lines-preserved
lines-preserved g c =
    let before = g.R.Source.remaining c.lines.reader in
    let after = g.R.Source.remaining c.next_line.new.reader in
    let old = c.lines.log in
    let new = c.next_line.new.self in
    let handed : Hands old new before after c.in-Some.line =
    subst (λ handed. MatchOption handed (new.over ≡ old.over) (Hands old new before after)) c.in-Some.is c.in_ok-line.ensures.hands in
    let goes : GoesOnWith old.heard c.in-Some.line new.heard =
    subst (λ handed. MatchOption handed (new.heard ≡ old.heard) (λ line. GoesOnWith old.heard line new.heard)) c.in-Some.is c.in_ok-line.ensures.order in
    record {
      works = c.in_ok-line.ensures.working;
      idle = c.hear_line.ensures.idle;
      same = (c.in_ok-line.ensures.same.0 ∙ c.lines.invariant.same.0, c.in_ok-line.ensures.same.1 ∙ c.lines.invariant.same.1);
      hears = λ means begins. so-far-line c.args.frame.now means (to_hand c.args.log.now (g.R.Source.remaining c.args.reader.now)) before after old new
          c.lines.hearing c.hear_line.new.hearing c.lines.runner c.hear_line.new.runner c.in-Some.line
          handed goes c.hear_line.ensures.hears (c.lines.invariant.hears means begins);
    }

pub returns-in_default-clause-hears : goal.returns-in_default-clause-hears
returns-in_default-clause-hears g c = λ means begins.
    let before = to_hand c.lines.log (g.R.Source.remaining c.lines.reader) in
    all-lines c.args.frame.now means (to_hand c.args.log.now (g.R.Source.remaining c.args.reader.now)) before c.lines.log c.lines.hearing c.lines.runner
    (no-line _ before c.in_default.not-Some c.in_ok-line.ensures.ends) (c.lines.invariant.hears means begins)
