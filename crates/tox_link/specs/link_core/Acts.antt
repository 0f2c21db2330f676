-- What a link core answers, and what an answer changes.
use Rattle.std.specs.Prelude.{◌≡◌, ℕ, ◌+◌, ◌<◌, ◌≤◌, ◌||◌, Bool, true, false, List, [], ◌∷◌, ◌++◌, Option, Some, None, IsSome, Result, OnOk, OnErr, is_some}
use Rattle.std.specs.Prelude.{nat_le, if◌then◌else◌}
use Rattle.tox_time.specs.declared.streams.ending.Ending.{Ending}
use Rattle.tox_time.specs.declared.streams.ending.Ending.TheVariants.{StillOpen, Closed as ClosedAt, Reset as ResetAt}
use Rattle.tox_time.specs.declared.streams.item.Item.{Item}
use Rattle.tox_time.specs.declared.streams.item.Item.TheVariants.{Chunk, Closed, Quiet}
use Rattle.tox_time.specs.declared.streams.arrivals.ArrivalFault.{ArrivalFault}
use Rattle.tox_time.specs.streams.Arrivals.{piece_fault}
use Rattle.tox_time.specs.streams.Table.{final_of}
use Rattle.tox_plan.specs.OpCursors.{ops_of}
use Rattle.tox_plan.specs.RunnerView.{answer_of}
use Rattle.tox_plan.specs.Unended.{IsUnended}
use Rattle.tox_link.specs.declared.link_core.act.Act.{Act}
use Rattle.tox_link.specs.declared.link_core.act.Act.TheVariants.{Write, WaitUntil, WaitForInput, End}
use Rattle.tox_link.specs.link_core.Core.{CoreView, TakesSlice, LeavesOutput, KeepsCore, GivesUp, remaining_output, next_instant, core_ending, core_deadline}
use Rattle.tox_link.specs.link_core.Core.{core_position, kept_count}

-- until the deadline, or without one for input
abbrev pub wait_act : Option ℕ → Act
wait_act None = WaitForInput
wait_act (Some deadline) = WaitUntil deadline

-- the ending once it is reached; a link that stays open ends where its source has ended
abbrev pub end_act : Bool → ℕ → Ending → Act
end_act true now StillOpen = End StillOpen
end_act false now StillOpen = WaitForInput
end_act ended now (ClosedAt t) = if nat_le t now then End (ClosedAt t) else WaitUntil t
end_act ended now (ResetAt t) = if nat_le t now then End (ResetAt t) else WaitUntil t

-- what is done at `now` where no slice is left
abbrev pub idle_act : Bool → ℕ → Option ℕ → Option Ending → Act
idle_act ended now deadline None = wait_act deadline
idle_act ended now deadline (Some ending) = end_act ended now ending

-- what is done at `now` where the next slice leaves at t
abbrev pub IsSliceAct : ℕ → ℕ → Act → Type 0
IsSliceAct t now (Write slice) = (slice.instant ≡ t) × (t ≤ now)
IsSliceAct t now (WaitUntil instant) = (instant ≡ t) × (now < t)
IsSliceAct t now WaitForInput = ⊥
IsSliceAct t now (End ending) = ⊥

-- a written slice is taken off the remaining output at or past its instant; every other answer leaves the output
abbrev pub After : CoreView → ℕ → Act → CoreView → Type 0
After old now (Write slice) new = (slice.instant ≤ now) × TakesSlice old new slice
After old now (WaitUntil instant) new = (now < instant) × LeavesOutput old new now
After old now WaitForInput new = LeavesOutput old new now
After old now (End ending) new = LeavesOutput old new now

-- an answer at `now`, by what is next: a slice, the deadline or the ending
pub record Answered (old new : CoreView) (now : ℕ) (act : Act) : Type 0 where
  pub slice : (t : ℕ) → next_instant (remaining_output old (Quiet ∷ [])) ≡ Some t → IsSliceAct t now act
  pub idle : next_instant (remaining_output old (Quiet ∷ [])) ≡ None → act ≡ idle_act old.ended now (core_deadline old) (core_ending new)
  pub ended : next_instant (remaining_output old (Quiet ∷ [])) ≡ None → old.ended ≡ true → IsSome (core_ending new)
  pub dropped : next_instant (remaining_output old (Quiet ∷ [])) ≡ None → kept_count new ≡ 0
  pub overdue : (d : ℕ) → next_instant (remaining_output old (Quiet ∷ [])) ≡ None → core_deadline old ≡ Some d → d ≤ now → IsSome (core_ending new)
  pub unended : next_instant (remaining_output old (Quiet ∷ [])) ≡ None → core_ending new ≡ None
      → IsUnended (ops_of new.runner.cursors) (remaining_output new) now
  pub output : After old now act new
  pub over : (last : Ending) → act ≡ End last → (items : List Item) → remaining_output new items ≡ final_of last ∷ []
  pub kept : KeepsCore old new
  pub given_up : core_ending new ≡ None → GivesUp old new
  pub holds : (t : ℕ) → next_instant (remaining_output old (Quiet ∷ [])) ≡ Some t → now < t → core_position new < new.runner.piece.span.stop
  pub latest : new.latest ≡ now

-- the piece of a written slice is kept, and where the slice was found before, each kept piece is
abbrev pub KeepsWritten : CoreView → CoreView → Act → Type 0
KeepsWritten old new (Write slice) = (new.runner.idle ≡ false) × (IsSome old.found → kept_count new ≡ kept_count old)
KeepsWritten old new (WaitUntil instant) = Unit {0}
KeepsWritten old new WaitForInput = Unit {0}
KeepsWritten old new (End ending) = Unit {0}

-- what a core at rest says at `now`, by what is next: a slice, the deadline or the ending
pub record Says (core : CoreView) (now : ℕ) (act : Act) : Type 0 where
  pub slice : (t : ℕ) → next_instant (remaining_output core (Quiet ∷ [])) ≡ Some t → IsSliceAct t now act
  pub idle : next_instant (remaining_output core (Quiet ∷ [])) ≡ None → act ≡ idle_act core.ended now (core_deadline core) (core_ending core)

-- what a piece of so many bytes is answered that arrives at an instant, and what it changes
pub record HearsPiece (old new : CoreView) (len instant : ℕ) (result : Result (Unit {0}) ArrivalFault) : Type 0 where
  pub answer : result ≡ answer_of (piece_fault old.bytes old.latest (old.ended || is_some (core_ending old)) len instant)
  pub taken : OnOk result
      (new ≡ record old { waiting = old.waiting ++ record { len = len; instant = instant } ∷ []; bytes = old.bytes + len; latest = instant })
  pub output : OnOk result ((items : List Item) → remaining_output new items
      ≡ remaining_output old (Chunk (record { start = old.bytes; stop = old.bytes + len }) instant ∷ items))
  pub err : OnErr result (new ≡ old)

-- what the source's end at an instant changes
pub record HearsEnd (old new : CoreView) (end : ℕ) : Type 0 where
  pub output : (items : List Item) → remaining_output new items ≡ remaining_output old (Closed end ∷ [])
  pub ended : (new.ended ≡ true) × (new.latest ≡ end)
  pub kept : KeepsCore (record old { ended = true }) new × (new.waiting ≡ old.waiting) × (core_position new ≡ core_position old)
  pub at_once : kept_count old ≡ 0 → IsSome (core_ending new)
