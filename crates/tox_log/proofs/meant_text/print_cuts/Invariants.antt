-- The writer works.
use Rattle.tox_text.specs.Printing.{KeepsWorking}
use Rattle.tox_log.proofs.meant_text.print_cuts.Given as goal

abbrev pub invariant-loop : goal.invariant-loop
invariant-loop g l = KeepsWorking g.W.Sink l.fn.printer l.printer
