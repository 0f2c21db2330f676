-- Nothing waited at first, and what waits is written.
use Rattle.std.proofs.Common.{rules}
use Rattle.tox_text.proofs.Printings.{Writes-finished}
use Rattle.tox_runs.proofs.runs.second_pass.write_text.Goals as goal

pub returns : goal.returns
returns g c =
    λ arrived spelled.
    let printed = c.in_ok-print_text.ensures arrived spelled in
    let same = printed.same_writer in
    let written = rw c.new-printer.ensures.writer at (Writes-finished c.finish.result _ c.new-printer.ensures.empty printed c.finish.ensures) in
    search (rules, written, same)
