-- Nothing waited at first, and what then waited was written.
use Rattle.std.proofs.Common.{rules}
use Rattle.tox_text.proofs.Printings.{Writes-finished}
use Rattle.tox_log.proofs.heard_text.write_words.Goals as goal

pub returns : goal.returns
returns g c =
    let written = rw c.new-printer.ensures.writer at (Writes-finished c.finish.result _ c.new-printer.ensures.empty c.in_ok-print_words_line.ensures
    c.finish.ensures) in
    search (rules, written)
