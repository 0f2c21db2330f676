-- The zeros of the bytes before are printed.
use Rattle.std.proofs.Common.{◌*◌, Ok}
use Rattle.std.specs.Prelude.{replicate}
use Rattle.tox_text.specs.Printing.{Prints}
use Rattle.tox_log.proofs.heard_text.print_zeros.Given as goal

abbrev pub invariant-loop : goal.invariant-loop
invariant-loop g l = Prints g.W.Sink (Ok tt) l.fn.printer l.printer (replicate (2 * l.counter) 48)
