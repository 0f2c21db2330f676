-- The first line that is left is the one that waits, or the next one.
use Rattle.std.proofs.Common.{◌≡◌, false, rules, ap, sym, subst, ◌∙◌}
use Rattle.tox_log.specs.Reading.{CountsOn}
use Rattle.tox_log.proofs.Numbering.{numbers-read, numbers-waited}
use Rattle.tox_log.proofs.Faults.{failed-so, same-blame}
use Rattle.tox_log.proofs.Leaving.{NextLeft, hands-first, hands-none, next-moved, next-read, next-waits, none-left}
use Rattle.tox_log.proofs.open_log.OpenLog.next_line.Goals as goal
use Rattle.tox_log.proofs.open_log.OpenLog.next_line.Goals.{then-self, else-self+in_ok-advance+else-not-branch}

pub returns-in_err-advance-clause-reads : goal.returns-in_err-advance-clause-reads
returns-in_err-advance-clause-reads g c = λ lines left. failed-so c.from_residual.result _ _ _ c.from_residual.ensures.1
    (λ fault is. same-blame fault c.in_err-advance.field-0.0 is c.in_err-advance.ensures.fault)

pub returns-then-not-branch-clause-reads : goal.returns-then-not-branch-clause-reads
returns-then-not-branch-clause-reads g c = λ lines left. hands-none c.advance.new.self (g.R.Source.remaining c.advance.new.reader) lines
    (none-left c.args.self.now c.advance.new.self (g.R.Source.remaining c.args.reader.now) (g.R.Source.remaining c.advance.new.reader) c.if-self.false lines
    left (c.in_ok-advance.ensures.end (search rules)))

pub returns-in-Some-clause-reads : goal.returns-in-Some-clause-reads
returns-in-Some-clause-reads g c = λ lines left.
    let waits : c.if-self.self.waits ≡ false = elim c.if-self.branch [
      | then-self w ↦ ap (λ log. log.waits) w.self-is
      | else-self+in_ok-advance+else-not-branch w ↦ ap (λ log. log.waits) w.self-is ∙ w.advance.ensures.kept.0 ∙ w.if-self.false
    ] in
    let next : NextLeft c.if-self.self (g.R.Source.remaining c.if-self.reader) lines = elim c.if-self.branch [
      | then-self w ↦ next-moved (record c.args.self.now { waits = false }) c.if-self.self (g.R.Source.remaining c.args.reader.now)
          (g.R.Source.remaining c.if-self.reader) lines w.self-is (ap g.R.Source.remaining w.reader-is)
          (next-waits c.args.self.now (g.R.Source.remaining c.args.reader.now) lines left w.if-self.true)
      | else-self+in_ok-advance+else-not-branch w ↦ next-moved w.advance.new.self c.if-self.self (g.R.Source.remaining w.advance.new.reader)
          (g.R.Source.remaining c.if-self.reader) lines w.self-is (ap g.R.Source.remaining w.reader-is)
          (next-read c.args.self.now w.advance.new.self (g.R.Source.remaining c.args.reader.now) (g.R.Source.remaining w.advance.new.reader) w.if-self.false
          lines left (w.in_ok-advance.ensures.line w.if-not-branch.false) w.advance.ensures.kept.1.3 w.advance.ensures.kept.1.1)
    ] in
    hands-first c.if-self.self c.line_in_order.new.self (g.R.Source.remaining c.if-self.reader) lines c.in-Some.line next
    (c.in-Some.ensures.back next.line next.next) c.in-Some.ensures.kept.0 waits c.in-Some.ensures.kept.1 c.in-Some.ensures.order.1 c.in-Some.ensures.order.2

pub returns-in-None-clause-reads : goal.returns-in-None-clause-reads
returns-in-None-clause-reads g c = λ lines left.
    absurd (let next : NextLeft c.if-self.self (g.R.Source.remaining c.if-self.reader) lines = elim c.if-self.branch [
      | then-self w ↦ next-moved (record c.args.self.now { waits = false }) c.if-self.self (g.R.Source.remaining c.args.reader.now)
          (g.R.Source.remaining c.if-self.reader) lines w.self-is (ap g.R.Source.remaining w.reader-is)
          (next-waits c.args.self.now (g.R.Source.remaining c.args.reader.now) lines left w.if-self.true)
      | else-self+in_ok-advance+else-not-branch w ↦ next-moved w.advance.new.self c.if-self.self (g.R.Source.remaining w.advance.new.reader)
          (g.R.Source.remaining c.if-self.reader) lines w.self-is (ap g.R.Source.remaining w.reader-is)
          (next-read c.args.self.now w.advance.new.self (g.R.Source.remaining c.args.reader.now) (g.R.Source.remaining w.advance.new.reader) w.if-self.false
          lines left (w.in_ok-advance.ensures.line w.if-not-branch.false) w.advance.ensures.kept.1.3 w.advance.ensures.kept.1.1)
    ] in
    let none = c.in-None.ensures.back next.line next.next in cc)

pub returns-in-Some-clause-numbered : goal.returns-in-Some-clause-numbered
returns-in-Some-clause-numbered g c = λ line is. elim c.if-self.branch [
  | then-self w ↦ numbers-waited c.args.self.now c.line_in_order.new.self w.if-self.true (c.in-Some.ensures.kept.1 ∙ ap (λ log. log.waits) w.self-is)
      (c.in-Some.ensures.kept.4 ∙ ap (λ log. log.number) w.self-is) line is
  | else-self+in_ok-advance+else-not-branch w ↦ numbers-read c.args.self.now c.line_in_order.new.self w.if-self.false
      (c.in-Some.ensures.kept.1 ∙ ap (λ log. log.waits) w.self-is ∙ w.advance.ensures.kept.0 ∙ w.if-self.false)
      (subst (CountsOn c.args.self.now.number) (sym (c.in-Some.ensures.kept.4 ∙ ap (λ log. log.number) w.self-is))
      (w.in_ok-advance.ensures.counts w.if-not-branch.false)) line is
]
