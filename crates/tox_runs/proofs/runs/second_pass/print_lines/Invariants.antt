-- What was printed, and what the lines that are left will print.
use Rattle.std.proofs.Common.{◌≡◌, ℕ, List, Ok, option_map, vec_capacity}
use Rattle.tox_time.specs.declared.streams.item.Item.{Item}
use Rattle.tox_time.specs.streams.Arrivals.{arrival_list}
use Rattle.tox_text.specs.arrivals.ArrivalsText.{Arrived, arrivals_of}
use Rattle.tox_text.specs.arrivals.Checked.{AreArrivals, AreShort}
use Rattle.tox_text.specs.arrivals.Lines.{lines_left, size_left}
use Rattle.tox_runs.specs.runs.SecondPass.{PrintsDownTo}
use Rattle.tox_runs.proofs.LineSteps.{IsUnderWay}
use Rattle.tox_runs.proofs.runs.second_pass.print_lines.Given as goal

abbrev pub invariant-loop-left : goal.invariant-loop-left
invariant-loop-left g l = record {
  arrived : Arrived;
  spelled : arrivals_of l.text ≡ Ok arrived;
  arrivals : AreArrivals arrived;
  number : ℕ;
  later : List Item;
  under_way : IsUnderWay arrived number (lines_left (option_map (λ rest. rest.now) l.left)) (g.S.SliceSource.stands l.source arrived) l.position later;
  short : AreShort (vec_capacity l.bytes) (lines_left (option_map (λ rest. rest.now) l.left));
  printed : PrintsDownTo g.W.Sink (Ok (tt {0})) l.fn.printer l.printer
      (g.S.SliceSource.text_left l.fn.source arrived (arrival_list arrived.items)) (g.S.SliceSource.text_left l.source arrived (arrival_list later));
}

abbrev pub decreases-loop-left : goal.decreases-loop-left
decreases-loop-left g l = size_left (option_map (λ rest. rest.now) l.left)
