-- Nothing waited at first, and what then waited was written.
use Rattle.std.proofs.Common.{rules, subst}
use Rattle.tox_text.specs.Writing.{Writes}
use Rattle.tox_text.proofs.Printings.{Writes-finished}
use Rattle.tox_log.specs.HeardText.{WritesHeard, heard_text}
use Rattle.tox_log.specs.Reading.{to_hand}
use Rattle.tox_log.proofs.heard_text.print_heard.Goals as goal

pub returns-clause-writes : goal.returns-clause-writes
returns-clause-writes g c =
    let (lines, read, printed) = c.in_ok-print_lines.ensures.prints in
    let same = printed.same_writer in
    let last = c.finish.new.self.1.0 in
    let written = rw c.new-printer.ensures.writer at (Writes-finished c.finish.result _ c.new-printer.ensures.empty printed c.finish.ensures) in
    let done = subst (λ result. Writes result (g.W.Sink.written c.args.writer.now) (g.W.Sink.written last) (g.W.Sink.failed last) (heard_text lines))
    c.in_ok-finish.was written in
    let shown : WritesHeard (to_hand c.args.log.now (g.R.Source.remaining c.args.reader.now)) (g.W.Sink.written c.args.writer.now) (g.W.Sink.written last) =
    record { lines = lines; read = read; written = done.0 } in
    search (rules, shown, same)
