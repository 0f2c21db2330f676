-- A runner that was offered nothing yet.
use Rattle.std.specs.Prelude.{◌≡◌, true, false, List, [], length, ℕ}
use Rattle.tox_time.specs.declared.streams.item.Item.{Item}
use Rattle.tox_time.specs.streams.Stream.{IsStream}
use Rattle.tox_compile.specs.Meaning.{Ops, means}
use Rattle.tox_plan.specs.OpCursors.{cursors_at_start, ops_of}
use Rattle.tox_plan.specs.RunnerView.{RunnerView, to_come, no_piece}
use Rattle.tox_plan.specs.Given.{HasGiven}

-- it gives what the plan means, drawing these words
pub record IsNewRunner (plan : Ops) (words : List ℕ) (runner : RunnerView) : Type 0 where
  pub to_come : (items : List Item) → IsStream items → to_come runner items ≡ means plan words items
  pub start : (runner.idle ≡ true) × (runner.finished ≡ false) × (runner.position ≡ 0) × (runner.piece ≡ no_piece) × (runner.latest ≡ 0)
      × (runner.drawing ≡ record { lanes = plan.lanes; words = words })
  pub counters : (runner.turns ≡ 0) × (runner.cuts ≡ 0) × (runner.pieces ≡ 0) × (length runner.cursors ≡ length plan.ops)
  pub cursors : runner.cursors ≡ cursors_at_start plan.ops
  pub ops : ops_of runner.cursors ≡ plan.ops
  pub given : HasGiven plan [] [] runner
