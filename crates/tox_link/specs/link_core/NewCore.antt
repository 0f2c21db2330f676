-- A link core at which nothing has arrived.
use Rattle.std.specs.Prelude.{◌≡◌, ℕ, true, false, List, [], ◌∷◌, None}
use Rattle.tox_time.specs.declared.streams.item.Item.{Item}
use Rattle.tox_time.specs.streams.Stream.{IsStream}
use Rattle.tox_defs.specs.declared.operations.op.Op.{Op}
use Rattle.tox_compile.specs.Meaning.{Ops, means}
use Rattle.tox_plan.specs.OpCursors.{ops_of}
use Rattle.tox_plan.specs.RunnerView.{RunnerView}
use Rattle.tox_link.specs.link_core.Core.{CoreView, core_position, kept_lens, kept_start, remaining_output}

-- the core of a runner that was offered nothing
abbrev pub core_of : RunnerView → CoreView
core_of runner = record {
  runner = runner;
  waiting = [];
  found = None;
  end = None;
  ended = false;
  bytes = 0;
  latest = 0;
  room = 1024;
}

-- nothing has arrived, and it gives what the plan means, drawing these words
pub record Begins (plan : Ops) (words : List ℕ) (core : CoreView) : Type 0 where
  pub meaning : (items : List Item) → IsStream items → remaining_output core items ≡ means plan words items
  pub start : (core.waiting ≡ []) × (core.runner.idle ≡ true) × (core.ended ≡ false) × (core.bytes ≡ 0) × (core.latest ≡ 0)
      × (core_position core ≡ 0)
  pub none_kept : (kept_lens core ≡ []) × (kept_start core ≡ 0)

-- and its runner is the plan's, and draws these words
pub record IsNewCore (plan : Ops) (words : List ℕ) (core : CoreView) : Type 0 where
  pub begins : Begins plan words core
  pub ops : ops_of core.runner.cursors ≡ plan.ops
  pub drawing : core.runner.drawing ≡ record { lanes = plan.lanes; words = words }

-- how many pieces a core has room for whose plan has these operations
abbrev pub room_of : List Op → ℕ
room_of [] = 4
room_of (op ∷ ops) = 1024
