-- The digits of the first bytes have passed.
use Rattle.std.proofs.Common.{Ok, ◌≤◌, ◌-◌, length, take}
use Rattle.hex.specs.Hex.{encode_lower}
use Rattle.tox_text.specs.Printing.{Prints}
use Rattle.tox_text.proofs.printer.SizedPrinter.put_hex.Given as goal

abbrev pub invariant-loop-done : goal.invariant-loop-done
invariant-loop-done g l = record {
  within : l.done ≤ length l.bytes;
  passed : Prints g.W.Sink (Ok tt) l.fn.self l.self (encode_lower (take l.done l.bytes));
}

abbrev pub decreases-loop-done : goal.decreases-loop-done
decreases-loop-done g l = length l.bytes - l.done
