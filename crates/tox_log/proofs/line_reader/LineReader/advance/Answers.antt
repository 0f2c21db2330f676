-- Part by part, up to the line feed.
use Rattle.std.proofs.Common.{rules}
use Rattle.tox_log.proofs.Lines.{takes-line, takes-part, takes-rest}
use Rattle.tox_log.proofs.line_reader.LineReader.advance.Goals as goal

pub returns-then-take-clause-line : goal.returns-then-take-clause-line
returns-then-take-clause-line g c = λ _. takes-line c.args.self.now c.lines.self c.fill.new.self c.take.new.self (g.R.Source.remaining c.args.reader.now)
    (g.R.Source.remaining c.lines.reader) (g.R.Source.remaining c.fill.new.reader) c.lines.invariant.taken c.in_ok-fill.ensures.given c.in_ok-fill.ensures.line
    c.if-take.ensures

pub lines-preserved : goal.lines-preserved
lines-preserved g c = record {
  working = c.in_ok-fill.ensures.working;
  taken = takes-part c.args.self.now c.lines.self c.fill.new.self c.take.new.self (g.R.Source.remaining c.args.reader.now) (g.R.Source.remaining c.lines.reader)
      (g.R.Source.remaining c.fill.new.reader) c.lines.invariant.taken c.in_ok-fill.ensures.given c.in_ok-fill.ensures.line c.if-take.ensures;
}

pub returns-then-not-branch-clause-end : goal.returns-then-not-branch-clause-end
returns-then-not-branch-clause-end g c = λ _. takes-rest c.args.self.now c.lines.self c.fill.new.self (g.R.Source.remaining c.args.reader.now)
    (g.R.Source.remaining c.lines.reader) (g.R.Source.remaining c.fill.new.reader)
    c.lines.invariant.taken c.in_ok-fill.ensures.given (c.in_ok-fill.ensures.end (search rules))
