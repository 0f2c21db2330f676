-- The third line comes next.
use Rattle.std.proofs.Common.{sym, ◌∙◌, rules}
use Rattle.tox_log.specs.Reading.{to_take}
use Rattle.tox_log.proofs.HeadingLines.{long-line, pair-parts, prints-seed}
use Rattle.tox_log.proofs.LineBytes.{seed-line-next, seed_words}
use Rattle.tox_log.proofs.NextLine.{next-line, no-rest}
use Rattle.tox_log.proofs.open_log.read_seed_line.Goals as goal

pub returns-then-not-branch-clause-reads : goal.returns-then-not-branch-clause-reads
returns-then-not-branch-clause-reads g c = λ log more writable given.
    absurd (no-rest c.args.lines.now c.advance.new.self (g.R.Source.remaining c.args.reader.now) (g.R.Source.remaining c.advance.new.reader)
    (seed_words log.chain.lanes log.seed) more
    (seed-line-next (to_take c.args.lines.now (g.R.Source.remaining c.args.reader.now)) log.chain.lanes log.seed more writable.seed given)
    (c.in_ok-advance.ensures.end (search rules)))

pub returns-in_default-clause-reads : goal.returns-in_default-clause-reads
returns-in_default-clause-reads g c = λ log more writable given.
    absurd (let read = next-line c.args.lines.now c.advance.new.self (g.R.Source.remaining c.args.reader.now) (g.R.Source.remaining c.advance.new.reader)
    (seed_words log.chain.lanes log.seed) more
    (seed-line-next (to_take c.args.lines.now (g.R.Source.remaining c.args.reader.now)) log.chain.lanes log.seed more writable.seed given)
    (c.in_ok-advance.ensures.line (search rules)) in
    long-line c.line.result c.advance.new.self.long _ c.in_default.is c.line.ensures read.0.1)

pub returns-in-Some-read_seed-clause-reads : goal.returns-in-Some-read_seed-clause-reads
returns-in-Some-read_seed-clause-reads g c = λ log more writable given.
    let read = next-line c.args.lines.now c.advance.new.self (g.R.Source.remaining c.args.reader.now) (g.R.Source.remaining c.advance.new.reader)
    (seed_words log.chain.lanes log.seed) more
    (seed-line-next (to_take c.args.lines.now (g.R.Source.remaining c.args.reader.now)) log.chain.lanes log.seed more writable.seed given)
    (c.in_ok-advance.ensures.line (search rules)) in
    let settings = pair-parts c.in-Some-read_seed.settings (log.chain.lanes, log.seed)
    (c.in-Some-read_seed.ensures.back log.chain.lanes log.seed writable.seed
    (prints-seed c.in-Some.line.now log.chain.lanes log.seed (sym c.in-Some.ensures.0 ∙ read.0.0))) in
    record { lanes = settings.0; seed = settings.1; behind = read.1 }

pub returns-in-None-clause-reads : goal.returns-in-None-clause-reads
returns-in-None-clause-reads g c = λ log more writable given.
    absurd (let read = next-line c.args.lines.now c.advance.new.self (g.R.Source.remaining c.args.reader.now) (g.R.Source.remaining c.advance.new.reader)
    (seed_words log.chain.lanes log.seed) more
    (seed-line-next (to_take c.args.lines.now (g.R.Source.remaining c.args.reader.now)) log.chain.lanes log.seed more writable.seed given)
    (c.in_ok-advance.ensures.line (search rules)) in
    let none = c.in-None.ensures.back log.chain.lanes log.seed writable.seed
    (prints-seed c.in-Some.line.now log.chain.lanes log.seed (sym c.in-Some.ensures.0 ∙ read.0.0)) in cc)
