-- The sentences of the first warnings have passed.
use Rattle.std.proofs.Common.{Ok, ◌+◌, flat_map, take}
use Rattle.tox_text.specs.Printing.{Prints}
use Rattle.tox_check.specs.Sentences.{sentence}
use Rattle.tox_check.proofs.check.print_warnings.Given as goal

abbrev pub invariant-loop-warning : goal.invariant-loop-warning
invariant-loop-warning g l = Prints g.W.Sink (Ok tt) l.fn.printer l.printer
    (flat_map (sentence (l.rule + 1)) (take l.warning-index l.warnings))
