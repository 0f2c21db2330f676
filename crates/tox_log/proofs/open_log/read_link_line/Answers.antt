-- The second line comes next.
use Rattle.std.proofs.Common.{sym, ◌∙◌, rules}
use Rattle.tox_log.specs.Reading.{to_take}
use Rattle.tox_log.proofs.HeadingLines.{long-line, prints-link}
use Rattle.tox_log.proofs.LineBytes.{link-line-next, link_words}
use Rattle.tox_log.proofs.NextLine.{next-line, no-rest}
use Rattle.tox_log.proofs.open_log.read_link_line.Goals as goal

pub returns-then-not-branch-clause-reads : goal.returns-then-not-branch-clause-reads
returns-then-not-branch-clause-reads g c = λ log more writable given.
    absurd (no-rest c.args.lines.now c.advance.new.self (g.R.Source.remaining c.args.reader.now) (g.R.Source.remaining c.advance.new.reader)
    (link_words log.name log.number log.stream) more
    (link-line-next (to_take c.args.lines.now (g.R.Source.remaining c.args.reader.now)) log.name log.number log.stream more writable.name writable.number.1
    writable.short given) (c.in_ok-advance.ensures.end (search rules)))

pub returns-in_default-clause-reads : goal.returns-in_default-clause-reads
returns-in_default-clause-reads g c = λ log more writable given.
    absurd (let read = next-line c.args.lines.now c.advance.new.self (g.R.Source.remaining c.args.reader.now) (g.R.Source.remaining c.advance.new.reader)
    (link_words log.name log.number log.stream) more
    (link-line-next (to_take c.args.lines.now (g.R.Source.remaining c.args.reader.now)) log.name log.number log.stream more writable.name writable.number.1
    writable.short given) (c.in_ok-advance.ensures.line (search rules)) in
    long-line c.line.result c.advance.new.self.long _ c.in_default.is c.line.ensures read.0.1)

pub returns-in_default-read_link-clause-reads : goal.returns-in_default-read_link-clause-reads
returns-in_default-read_link-clause-reads g c = λ log more writable given.
    absurd (let read = next-line c.args.lines.now c.advance.new.self (g.R.Source.remaining c.args.reader.now) (g.R.Source.remaining c.advance.new.reader)
    (link_words log.name log.number log.stream) more
    (link-line-next (to_take c.args.lines.now (g.R.Source.remaining c.args.reader.now)) log.name log.number log.stream more writable.name writable.number.1
    writable.short given) (c.in_ok-advance.ensures.line (search rules)) in
    c.in_default-read_link.ensures.back log.name log.number log.stream (prints-link c.in-Some.line.now log writable (sym c.in-Some.ensures.0 ∙ read.0.0)))

pub returns-clause-reads : goal.returns-clause-reads
returns-clause-reads g c = λ log more writable given.
    let read = next-line c.args.lines.now c.advance.new.self (g.R.Source.remaining c.args.reader.now) (g.R.Source.remaining c.advance.new.reader)
    (link_words log.name log.number log.stream) more
    (link-line-next (to_take c.args.lines.now (g.R.Source.remaining c.args.reader.now)) log.name log.number log.stream more writable.name writable.number.1
    writable.short given) (c.in_ok-advance.ensures.line (search rules)) in
    let link = c.in-Some-read_link.ensures.back log.name log.number log.stream
    (prints-link c.in-Some.line.now log writable (sym c.in-Some.ensures.0 ∙ read.0.0)) in
    record { name = c.in_ok-to_string.ensures.ok ∙ link.its_name; number = link.its_number; stream = link.its_stream; behind = read.1 }
