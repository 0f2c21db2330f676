-- Line by line.
use Rattle.std.proofs.Common.{◌≡◌, true, rules, refl, ◌∙◌}
use Rattle.tox_log.specs.declared.fault.LogFault.TheVariants.{BadLine, ReadFault, TooDeep}
use Rattle.tox_log.proofs.Faults.{failed-so, same-blame}
use Rattle.tox_log.proofs.Leaving.{other-goes, reads-next, toxic-fails, toxic-goes, toxics-end}
use Rattle.tox_log.proofs.Numbering.{numbers-end, numbers-other, numbers-toxic}
use Rattle.tox_log.proofs.Opening.{read-ends, read-one, read-waits}
use Rattle.tox_log.proofs.open_log.OpenLog.read_toxics.Goals as goal

pub toxics-preserved : goal.toxics-preserved
toxics-preserved g c =
    let kept = c.advance.ensures.kept in
    let same = c.in_ok-add_toxic.ensures.same in
    let before = c.toxics.invariant.same in record {
      working = c.in_ok-advance.ensures.working;
      going = same.2 ∙ kept.0 ∙ c.toxics.invariant.going;
      same = (same.0.0 ∙ kept.1.0 ∙ before.0, same.0.1 ∙ kept.1.1 ∙ before.1, same.0.2 ∙ kept.1.2 ∙ before.2, same.0.3 ∙ kept.1.3 ∙ before.3);
      numbered = λ begins. numbers-toxic c.toxics.self c.advance.new.self c.add_toxic.new.self (c.in_ok-advance.ensures.counts (search rules)) kept.2
          c.in_ok-add_toxic.ensures.number (c.in_ok-add_toxic.ensures.added (search rules)) (c.toxics.invariant.numbered begins);
      read = read-one c.args.self.now c.toxics.self c.advance.new.self c.add_toxic.new.self (g.R.Source.remaining c.args.reader.now)
          (g.R.Source.remaining c.toxics.reader) (g.R.Source.remaining c.advance.new.reader)
          c.toxics.invariant.read (c.in_ok-advance.ensures.line (search rules)) kept.2 (c.in_ok-add_toxic.ensures.added (search rules)) same.1;
      left = λ entries lines left. toxic-goes c.advance.new.self (g.R.Source.remaining c.advance.new.reader) entries lines c.add_toxic.new.self
          c.in_ok-add_toxic.field-0 (search rules)
          (reads-next c.toxics.self c.advance.new.self (g.R.Source.remaining c.toxics.reader) (g.R.Source.remaining c.advance.new.reader) entries
          c.advance.ensures.kept.1 c.advance.ensures.kept.2 lines (c.toxics.invariant.left entries lines left)
          (c.in_ok-advance.ensures.line (search rules)))
          c.in_ok-add_toxic.ensures.takes c.in_ok-add_toxic.ensures.skips same.0 same.1;
    }

pub returns-then-not-branch-clause-toxics : goal.returns-then-not-branch-clause-toxics
returns-then-not-branch-clause-toxics g c =
    let kept = c.advance.ensures.kept in
    read-ends c.args.self.now c.toxics.self c.advance.new.self (g.R.Source.remaining c.args.reader.now) (g.R.Source.remaining c.toxics.reader)
    (g.R.Source.remaining c.advance.new.reader)
    c.toxics.invariant.read (c.in_ok-advance.ensures.end (search rules)) kept.2 (kept.0 ∙ c.toxics.invariant.going)

pub returns-then-not-branch-2-clause-toxics : goal.returns-then-not-branch-2-clause-toxics
returns-then-not-branch-2-clause-toxics g c =
    let same = c.in_ok-add_toxic.ensures.same in
    let other = c.in_ok-add_toxic.ensures.other c.if-not-branch-2.true in
    read-waits c.args.self.now c.toxics.self c.advance.new.self (record c.add_toxic.new.self { waits = true }) (g.R.Source.remaining c.args.reader.now)
    (g.R.Source.remaining c.toxics.reader) (g.R.Source.remaining c.advance.new.reader)
    c.toxics.invariant.read (c.in_ok-advance.ensures.line (search rules)) c.advance.ensures.kept.2 other.1 other.0 same.1 refl

pub returns-in_err-advance-clause-reads : goal.returns-in_err-advance-clause-reads
returns-in_err-advance-clause-reads g c = λ entries lines left. failed-so c.from_residual.result _ _ _ c.from_residual.ensures.1
    (λ fault is. same-blame fault c.in_err-advance.field-0.0 is c.in_err-advance.ensures.fault)

pub returns-then-not-branch-clause-reads : goal.returns-then-not-branch-clause-reads
returns-then-not-branch-clause-reads g c = λ entries lines left.
    let kept = c.advance.ensures.kept in
    toxics-end c.toxics.self c.advance.new.self (g.R.Source.remaining c.toxics.reader) (g.R.Source.remaining c.advance.new.reader) entries kept.1 kept.2 lines
    (c.toxics.invariant.left entries lines left)
    (kept.0 ∙ c.toxics.invariant.going) (c.in_ok-advance.ensures.end (search rules))

pub returns-in_err-add_toxic-clause-reads : goal.returns-in_err-add_toxic-clause-reads
returns-in_err-add_toxic-clause-reads g c = λ entries lines left. failed-so c.from_residual-in_err-add_toxic.result _ _ _
    c.from_residual-in_err-add_toxic.ensures.1 (λ fault is. same-blame fault c.in_err-add_toxic.field-0.0 is
    (toxic-fails c.advance.new.self (g.R.Source.remaining c.advance.new.reader) entries lines c.in_err-add_toxic.field-0.0
    (reads-next c.toxics.self c.advance.new.self (g.R.Source.remaining c.toxics.reader) (g.R.Source.remaining c.advance.new.reader) entries
    c.advance.ensures.kept.1 c.advance.ensures.kept.2 lines (c.toxics.invariant.left entries lines left) (c.in_ok-advance.ensures.line (search rules)))
    c.in_err-add_toxic.ensures.takes c.in_err-add_toxic.ensures.skips))

pub returns-then-not-branch-2-clause-reads : goal.returns-then-not-branch-2-clause-reads
returns-then-not-branch-2-clause-reads g c = λ entries lines left.
    let same = c.in_ok-add_toxic.ensures.same in
    let other = c.in_ok-add_toxic.ensures.other c.if-not-branch-2.true in
    other-goes c.advance.new.self (g.R.Source.remaining c.advance.new.reader) entries lines (record c.add_toxic.new.self { waits = true })
    c.in_ok-add_toxic.field-0 c.if-not-branch-2.true
    (reads-next c.toxics.self c.advance.new.self (g.R.Source.remaining c.toxics.reader) (g.R.Source.remaining c.advance.new.reader) entries
    c.advance.ensures.kept.1 c.advance.ensures.kept.2 lines (c.toxics.invariant.left entries lines left) (c.in_ok-advance.ensures.line (search rules)))
    c.in_ok-add_toxic.ensures.takes other.0 same.0 same.1 refl

pub returns-clause-reads : goal.returns-clause-reads
returns-clause-reads g c = λ entries lines left. (
  λ number same. let other : ReadFault ≡ BadLine number = same in cc,
  λ number same. let other : ReadFault ≡ TooDeep number = same in cc,
)

pub returns-then-not-branch-clause-numbered : goal.returns-then-not-branch-clause-numbered
returns-then-not-branch-clause-numbered g c = λ begins.
    let kept = c.advance.ensures.kept in
    numbers-end c.toxics.self c.advance.new.self (kept.0 ∙ c.toxics.invariant.going) (c.in_ok-advance.ensures.stands (search rules)) kept.2
    (c.toxics.invariant.numbered begins)

pub returns-then-not-branch-2-clause-numbered : goal.returns-then-not-branch-2-clause-numbered
returns-then-not-branch-2-clause-numbered g c = λ begins.
    let other = c.in_ok-add_toxic.ensures.other c.if-not-branch-2.true in
    numbers-other c.toxics.self c.advance.new.self c.add_toxic.new.self (c.in_ok-advance.ensures.counts (search rules)) c.advance.ensures.kept.2
    c.in_ok-add_toxic.ensures.number other.0 (c.toxics.invariant.numbered begins)
