-- The lines of the slices so far passed, and the others are left.
use Rattle.std.proofs.Common.{Ok, ◌≡◌, ◌-◌, List}
use Rattle.tox_time.specs.declared.streams.item.Item.{Item}
use Rattle.tox_text.specs.arrivals.ArrivalsText.{Arrived}
use Rattle.tox_text.specs.Printing.{IsWorking}
use Rattle.tox_runs.specs.runs.RunnerSlices.{text_to_come}
use Rattle.tox_runs.specs.runs.SecondPass.{IsPieceOf, PrintsDownTo}
use Rattle.tox_runs.proofs.runs.runner_slices.print_cuts.Given as goal

abbrev pub invariant-loop-slice : goal.invariant-loop-slice
invariant-loop-slice g l = record {
  working : IsWorking g.W.Sink l.printer;
  piece : l.runner.piece ≡ l.fn.runner.piece;
  latest : l.runner.latest ≡ l.fn.runner.latest;
  printed : (arrived : Arrived) (items : List Item) → IsPieceOf arrived l.piece
      → PrintsDownTo g.W.Sink (Ok (tt {0})) l.fn.printer l.printer (text_to_come arrived l.fn.runner items) (text_to_come arrived l.runner items);
}

abbrev pub decreases-loop-slice : goal.decreases-loop-slice
decreases-loop-slice g l = l.runner.piece.span.stop - l.runner.position
