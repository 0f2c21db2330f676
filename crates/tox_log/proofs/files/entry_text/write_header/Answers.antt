-- Nothing waited at first, and what then waited was written.
use Rattle.std.proofs.Common.{rules}
use Rattle.tox_log.specs.files.EntryText.{entry_text}
use Rattle.tox_text.proofs.Printings.{Writes-finished}
use Rattle.tox_log.proofs.files.entry_text.write_header.Goals as goal

pub returns : goal.returns
unfolding entry_text
returns c =
    let written = rw c.new-printer.ensures.writer at (Writes-finished c.finish.result _ c.new-printer.ensures.empty c.in_ok-print_header.ensures
    c.finish.ensures) in
    search (rules, written)
