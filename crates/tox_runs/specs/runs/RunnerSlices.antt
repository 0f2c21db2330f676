-- A runner that is offered the pieces of an arrivals text.
use Rattle.std.specs.Prelude.{◌≡◌, ℕ, true, List, ◌++◌, map}
use Rattle.std.specs.List.{enumerate_from}
use Rattle.tox_time.specs.declared.streams.item.Item.{Item}
use Rattle.tox_time.specs.streams.Table.{ending, table}
use Rattle.tox_plan.specs.RunnerView.{RunnerView, to_come}
use Rattle.tox_plan.proofs.Deliveries.{IsAhead}
use Rattle.tox_text.specs.arrivals.ArrivalsText.{Arrived}
use Rattle.tox_text.specs.ResultText.{delivered_at, ending_line, lines_text}

-- the result text of what a runner still gives, if these items arrive
abbrev pub text_to_come : Arrived → RunnerView → List Item → List ℕ
text_to_come arrived runner items =
    lines_text (map
    (λ place. delivered_at arrived place.0 place.1)
    (enumerate_from runner.position (table (to_come runner items))))
    ++ ending_line (ending (to_come runner items))

-- the runner is idle, and these items may come next
pub record MayComeNext (runner : RunnerView) (items : List Item) : Type 0 where
  pub idle : runner.idle ≡ true
  pub ahead : IsAhead runner items
