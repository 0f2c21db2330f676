-- What holds of every link core.
use Rattle.std.specs.Prelude.{◌≡◌, ℕ, ◌+◌, ◌<◌, ◌≤◌, ◌^◌, true, false, List, [], ◌∷◌, IsSome, IfSome, None, Option, Some, ◌⊎◌}
use Rattle.tox_time.specs.declared.streams.slice.Slice.{Slice}
use Rattle.tox_time.specs.declared.streams.item.Item.{Item}
use Rattle.tox_time.specs.declared.streams.item.Item.TheVariants.{Quiet}
use Rattle.tox_time.specs.declared.streams.ending.Ending.{Ending}
use Rattle.tox_time.specs.streams.Table.{final_of}
use Rattle.tox_plan.specs.RunnerView.{RunnerView, known_ending, to_come}
use Rattle.tox_plan.specs.Cuts.{IsWithin, BeginsApart}
use Rattle.tox_link.specs.declared.link_core.waiting.WaitingPiece.{WaitingPiece}
use Rattle.tox_link.specs.link_core.Core.{CoreView, kept_count}

-- the bytes of waiting pieces
abbrev pub total_len : List WaitingPiece → ℕ
total_len [] = 0
total_len (piece ∷ pieces) = piece.len + total_len pieces

-- the pieces have bytes, and their instants never fall, from one instant to another
abbrev pub AreTimely : ℕ → List WaitingPiece → ℕ → Type 0
AreTimely since [] until = since ≤ until
AreTimely since (piece ∷ pieces) until = (since ≤ piece.instant) × (0 < piece.len) × AreTimely piece.instant pieces until

-- the runner knows its ending, and whatever comes, it gives that alone
pub record IsOver (runner : RunnerView) : Type 0 where
  pub last : Ending
  pub known : known_ending runner ≡ Some last
  pub only : (items : List Item) → to_come runner items ≡ final_of last ∷ []

-- the source's last instant: its end, if it is kept
abbrev pub arrived_by : Option ℕ → ℕ → ℕ
arrived_by None latest = latest
arrived_by (Some t) latest = t

-- a found slice is the last one that the runner gave
pub record IsFoundSlice (runner : RunnerView) (bytes : ℕ) (slice : Slice) : Type 0 where
  pub busy : runner.idle ≡ false
  pub stands : runner.position ≡ slice.span.stop
  pub within : IsWithin runner.piece slice
  pub arrived : slice.span.stop ≤ bytes
  pub apart : BeginsApart slice.instant (to_come runner (Quiet ∷ []))

-- what holds of every link core
pub record IsCore (core : CoreView) : Type 0 where
  pub few : kept_count core ≤ 1024
  pub few_bytes : core.bytes ≤ 2 ^ 40
  pub total : (core.runner.piece.span.stop + total_len core.waiting ≡ core.bytes) ⊎ IsOver core.runner
  pub timely : AreTimely core.runner.latest core.waiting (arrived_by core.end core.latest)
  pub end_passed : arrived_by core.end core.latest ≤ core.latest
  pub ended : IsSome core.end → core.ended ≡ true
  pub finished : core.ended ≡ true → core.end ≡ None → core.runner.finished ≡ true
  pub found : IfSome core.found (IsFoundSlice core.runner core.bytes)
