-- When a link hasn't ended yet.
use Rattle.std.specs.Prelude.{◌≡◌, ◌≢◌, ℕ, ◌<◌, ◌≤◌, Bool, true, false, List, [], ◌∷◌, Option, Some, None}
use Rattle.std.specs.List.{list_any}
use Rattle.tox_time.specs.declared.streams.item.Item.{Item}
use Rattle.tox_time.specs.declared.streams.item.Item.TheVariants.{Closed, Quiet}
use Rattle.tox_time.specs.declared.streams.ending.Ending.{Ending}
use Rattle.tox_time.specs.declared.streams.ending.Ending.TheVariants.{StillOpen, Closed as ClosedAt, Reset as ResetAt}
use Rattle.tox_time.specs.streams.Stream.{IsStreamFrom}
use Rattle.tox_time.specs.streams.Table.{ending}
use Rattle.tox_defs.specs.declared.operations.op.Op.{Op}
use Rattle.tox_defs.specs.declared.operations.op.Op.TheVariants.{Halt}
use Rattle.tox_compile.specs.Meaning.{deadline_of}
use Rattle.tox_plan.specs.OpCursors.{ops_of}
use Rattle.tox_plan.specs.RunnerView.{RunnerView, to_come}

-- there is no deadline, or it is later
abbrev pub IsBeforeDeadline : ℕ → Option ℕ → Type 0
IsBeforeDeadline now None = Unit {0}
IsBeforeDeadline now (Some deadline) = now < deadline

-- the link stays open, or ends later
abbrev pub IsOpenAt : ℕ → Ending → Type 0
IsOpenAt now StillOpen = Unit {0}
IsOpenAt now (ClosedAt t) = now < t
IsOpenAt now (ResetAt t) = now < t

-- whether an operation leaves a link open from an instant on, whatever arrives
abbrev pub leaves_open : Op → Bool
leaves_open (Halt (Some at) after StillOpen) = true
leaves_open op = false

-- a link with these operations and this output hasn't ended at an instant: if nothing more arrives, it stays open or ends later; a
-- close that arrives then ends it, if no operation leaves it open
pub record IsUnended (ops : List Op) (output : List Item → List Item) (now : ℕ) : Type 0 where
  pub quiet : IsOpenAt now (ending (output (Quiet ∷ [])))
  pub closed : list_any leaves_open ops ≡ false → ending (output (Closed now ∷ [])) ≢ StillOpen

-- where the plan has a deadline, this is to come whatever arrives at or after it
abbrev pub LeavesPastDeadline : RunnerView → List Item → Type 0
LeavesPastDeadline runner last =
    (d position since : ℕ) (items : List Item) → deadline_of (ops_of runner.cursors) ≡ Some d
    → d ≤ since → IsStreamFrom position since items → to_come runner items ≡ last
