-- The first line comes next.
use Rattle.std.proofs.Common.{◌≡◌, ◌++◌, ◌∷◌, [], true, codes, ap, sym, ◌∙◌, rules}
use Rattle.tox_log.proofs.HeadingLines.{long-line, title-next}
use Rattle.tox_log.proofs.NextLine.{next-line, no-rest}
use Rattle.tox_log.specs.Reading.{to_take}
use Rattle.tox_log.proofs.open_log.read_title.Goals as goal

pub returns-then-not-branch-clause-reads : goal.returns-then-not-branch-clause-reads
returns-then-not-branch-clause-reads g c = λ more given.
    absurd (no-rest c.args.lines.now c.advance.new.self (g.R.Source.remaining c.args.reader.now) (g.R.Source.remaining c.advance.new.reader)
    (codes "toxi log 1") more
    (title-next (to_take c.args.lines.now (g.R.Source.remaining c.args.reader.now)) more given) (c.in_ok-advance.ensures.end (search rules)))

pub returns-in_default-clause-reads : goal.returns-in_default-clause-reads
returns-in_default-clause-reads g c = λ more given.
    absurd (let read = next-line c.args.lines.now c.advance.new.self (g.R.Source.remaining c.args.reader.now) (g.R.Source.remaining c.advance.new.reader)
    (codes "toxi log 1") more
    (title-next (to_take c.args.lines.now (g.R.Source.remaining c.args.reader.now)) more given) (c.in_ok-advance.ensures.line (search rules)) in
    let title : c.is_title.result ≡ true = c.is_title.ensures.1 (ap (λ line. line ++ 10 ∷ []) (sym c.in-Some.ensures.0 ∙ read.0.0)) in
    let other = c.if-is_title.false in cc)

pub returns-in_default-2-clause-reads : goal.returns-in_default-2-clause-reads
returns-in_default-2-clause-reads g c = λ more given.
    absurd (let read = next-line c.args.lines.now c.advance.new.self (g.R.Source.remaining c.args.reader.now) (g.R.Source.remaining c.advance.new.reader)
    (codes "toxi log 1") more
    (title-next (to_take c.args.lines.now (g.R.Source.remaining c.args.reader.now)) more given) (c.in_ok-advance.ensures.line (search rules)) in
    long-line c.line.result c.advance.new.self.long _ c.in_default.is c.line.ensures read.0.1)
