-- The ends work.
use Rattle.std.proofs.Common.{◌≡◌, false, true}
use Rattle.tox_text.specs.Printing.{KeepsWorking}
use Rattle.tox_log.proofs.meant_text.print_lines.Given as goal

abbrev pub invariant-loop : goal.invariant-loop
invariant-loop g l = (g.R.Source.failed l.reader ≡ false) × KeepsWorking g.W.Sink l.fn.printer l.printer × (l.runner.idle ≡ true)
