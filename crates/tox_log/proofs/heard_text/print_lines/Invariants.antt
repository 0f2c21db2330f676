-- The reader works, and what the lines that were read heard is printed.
use Rattle.std.proofs.Common.{◌≡◌, false}
use Rattle.tox_text.specs.Printing.{IsWorking}
use Rattle.tox_log.specs.Reading.{to_hand}
use Rattle.tox_log.proofs.HeardParts.{PrintsLines}
use Rattle.tox_log.proofs.heard_text.print_lines.Given as goal

abbrev pub invariant-lines : goal.invariant-lines
invariant-lines g l = record {
  reads : g.R.Source.failed l.reader ≡ false;
  works : IsWorking g.W.Sink l.printer;
  heard : PrintsLines g.W.Sink (to_hand l.fn.log (g.R.Source.remaining l.fn.reader)) (to_hand l.log (g.R.Source.remaining l.reader)) l.fn.printer l.printer;
}
