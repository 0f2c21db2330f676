-- The lines of the slices so far passed, and the others are left.
use Rattle.std.proofs.Common.{Ok, ◌≡◌, length}
use Rattle.tox_text.specs.Printing.{IsWorking}
use Rattle.tox_runs.specs.runs.OutcomeSlices.{IsPending, pending_text}
use Rattle.tox_runs.specs.runs.SecondPass.{IsAtPiece, PrintsDownTo}
use Rattle.tox_runs.proofs.OutcomeLemmas.{IsPrinting}
use Rattle.tox_runs.proofs.runs.outcome_slices.OutcomeSlicesSliceSource.print_piece.Given as goal

abbrev pub invariant-loop-slice : goal.invariant-loop-slice
invariant-loop-slice g l = record {
  working : IsWorking g.W.Sink l.printer;
  ending : l.self.ending.now ≡ l.fn.self.ending.now;
  printing : (at : IsAtPiece (λ arrived position items. IsPending l.fn.self.left.now l.fn.self.position arrived position items) l.piece)
      → IsPrinting at.arrived l.piece l.self.position l.self.left.now;
  printed : (at : IsAtPiece (λ arrived position items. IsPending l.fn.self.left.now l.fn.self.position arrived position items) l.piece)
      → PrintsDownTo g.W.Sink (Ok (tt {0})) l.fn.printer l.printer
      (pending_text at.arrived l.fn.self.position l.fn.self.left.now l.fn.self.ending.now)
      (pending_text at.arrived l.self.position l.self.left.now l.fn.self.ending.now);
}

abbrev pub decreases-loop-slice : goal.decreases-loop-slice
decreases-loop-slice g l = length l.self.left.now
