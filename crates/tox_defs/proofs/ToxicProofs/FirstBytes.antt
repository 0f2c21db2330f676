-- What ends a link behind so many bytes keeps streams and bytes, and gives so many bytes.
use Rattle.std.proofs.Common.{◌≡◌, ℕ, zero, suc, ◌+◌, ◌-◌, ◌<◌, ◌≤◌, Bool, true, false, List, [], ◌∷◌, ◌++◌, refl, arith, inl, inr, ◌⊎◌, min, if◌then◌else◌}
use Rattle.std.proofs.Common.{length, length-append}
use Rattle.std.specs.Prelude.{nat_lt}
use Rattle.std.proofs.lemmas.Bool.{ltb-true, ltb-false}
use Rattle.std.proofs.lemmas.List.{length-replicate, append-nil}
use Rattle.tox_time.specs.Time.{horizon}
use Rattle.tox_time.specs.declared.streams.span.Span.{Span}
use Rattle.tox_time.specs.declared.streams.item.Item.{Item}
use Rattle.tox_time.specs.declared.streams.item.Item.TheVariants.{Chunk, Closed, Reset, Quiet}
use Rattle.tox_time.specs.declared.streams.ending.Ending.{Ending}
use Rattle.tox_time.specs.declared.streams.ending.Ending.TheVariants.{StillOpen, Closed as ClosedAt, Reset as ResetAt}
use Rattle.tox_time.specs.streams.Stream.{span_len, is_final, IsStreamFrom, arrived}
use Rattle.tox_time.specs.streams.Table.{table, final_of}
use Rattle.tox_defs.specs.declared.operations.state.State.{State}
use Rattle.tox_defs.specs.stage.Reaction.{counted, flow_from, state_after}
use Rattle.tox_defs.specs.toxics.FirstBytes.{bytes_give, first_bytes}
use Rattle.tox_defs.proofs.FlowLemmas.{flow_from-done}
use Rattle.tox_defs.proofs.KeepingStreams.{CanFollow, GoesOn, EndsThere}
use Rattle.tox_defs.proofs.OpenStates.{open_state, has_final-first_bytes}
use Rattle.tox_defs.proofs.PassedBytes.{PassesAtMost}
use Rattle.tox_defs.proofs.StreamKeepers.{unchanged_final}
use Rattle.tox_defs.proofs.Within.{GivesWithin, LieWithin, chunk_within, final_within, in_first}

-- an ending at or past an instant
abbrev pub EndsPast : ℕ → Ending → Type 0
EndsPast t StillOpen = Unit {0}
EndsPast t (ClosedAt end) = (t ≤ end) × (end ≤ horizon)
EndsPast t (ResetAt end) = (t ≤ end) × (end ≤ horizon)

first_bytes_end : (room : ℕ) (span : Span) (t previous : ℕ) (end : Ending) → previous ≤ t → t ≤ horizon → EndsPast t end
    → IsStreamFrom span.start previous (first_bytes room span t ++ (final_of end ∷ []))
first_bytes_end zero span t previous StillOpen before fits past = refl
first_bytes_end zero span t previous (ClosedAt end) before fits past = (omega (arith, before, past.0), past.1, refl)
first_bytes_end zero span t previous (ResetAt end) before fits past = (omega (arith, before, past.0), past.1, refl)
first_bytes_end (suc n) span t previous StillOpen before fits past = (refl, omega arith, before, fits, refl)
first_bytes_end (suc n) span t previous (ClosedAt end) before fits past = (refl, omega arith, before, fits, (past.0, past.1, refl))
first_bytes_end (suc n) span t previous (ResetAt end) before fits past = (refl, omega arith, before, fits, (past.0, past.1, refl))

-- a chunk passes, or its first bytes do and the ending comes
pub bytes_chunk : (R : ℕ → ℕ → Type 0) (bytes : ℕ) (ending_at : ℕ → Ending) (previous chunks pieces passed : ℕ) (span : Span) (t : ℕ) (b : Bool)
    → nat_lt (span_len span) (bytes - passed) ≡ b
    → previous ≤ t → R t t → span.start < span.stop → t ≤ horizon → EndsPast t (ending_at t)
    → GoesOn R (bytes_give bytes ending_at (open_state previous chunks pieces passed) (Chunk span t)) span.start previous span.stop t
    ⊎ EndsThere (bytes_give bytes ending_at (open_state previous chunks pieces passed) (Chunk span t)) span.start previous
bytes_chunk R bytes ending_at previous chunks pieces passed span t true e before related some fits past =
    rw e (inl (record { in_row = (refl, some, before, fits, refl); no_final = refl; related = related; instant = fits }))
bytes_chunk R bytes ending_at previous chunks pieces passed span t false e before related some fits past =
    rw e (inr (record {
      a_final = has_final-first_bytes (bytes - passed) span t (ending_at t);
      in_row =
          first_bytes_end (bytes - passed) span t previous (ending_at t) before fits past;
    }))

-- a final passes
pub bytes_final : (bytes : ℕ) (ending_at : ℕ → Ending) (state : State) (end : Ending) → bytes_give bytes ending_at state (final_of end) ≡ final_of end ∷ []
bytes_final bytes ending_at state StillOpen = refl
bytes_final bytes ending_at state (ClosedAt t) = refl
bytes_final bytes ending_at state (ResetAt t) = refl

pub bytes_at_final : (bytes : ℕ) (ending_at : ℕ → Ending) (previous chunks pieces passed : ℕ) (item : Item) (position since : ℕ) → previous ≤ since
    → is_final item ≡ true → CanFollow position since item
    → IsStreamFrom position previous (bytes_give bytes ending_at (open_state previous chunks pieces passed) item)
bytes_at_final bytes ending_at previous chunks pieces passed (Chunk span t) position since before final follows = absurd (cc)
bytes_at_final bytes ending_at previous chunks pieces passed (Closed t) position since before final follows =
    unchanged_final previous position since (Closed t) before final follows
bytes_at_final bytes ending_at previous chunks pieces passed (Reset t) position since before final follows =
    unchanged_final previous position since (Reset t) before final follows
bytes_at_final bytes ending_at previous chunks pieces passed Quiet position since before final follows = refl

arrived-first_bytes : (n : ℕ) (span : Span) (t : ℕ) (end : Ending) → arrived (first_bytes n span t ++ (final_of end ∷ [])) ≤ n
arrived-first_bytes zero span t StillOpen = omega arith
arrived-first_bytes zero span t (ClosedAt end) = omega arith
arrived-first_bytes zero span t (ResetAt end) = omega arith
arrived-first_bytes (suc n) span t StillOpen = omega arith
arrived-first_bytes (suc n) span t (ClosedAt end) = omega arith
arrived-first_bytes (suc n) span t (ResetAt end) = omega arith

-- no more bytes than there is room for, nor than came
bounded_chunk : (short : Bool) (room : ℕ) (span : Span) (t : ℕ) (end : Ending) → nat_lt (span_len span) room ≡ short
    → (arrived (if short then Chunk span t ∷ [] else (first_bytes room span t ++ (final_of end ∷ []))) ≤ room)
    × (arrived (if short then Chunk span t ∷ [] else (first_bytes room span t ++ (final_of end ∷ []))) ≤ span_len span + 0)
bounded_chunk true room span t end is =
    let less : span_len span < room = ltb-true (span_len span) room is in
    (omega (arith, less), omega arith)
bounded_chunk false room span t end is =
    let few : room ≤ span_len span = ltb-false (span_len span) room is in
    (arrived-first_bytes room span t end, omega (arith, arrived-first_bytes room span t end, few))

pub bytes-passes : (bytes : ℕ) (ending_at : ℕ → Ending) → PassesAtMost (counted (bytes_give bytes ending_at))
bytes-passes bytes ending_at state (Chunk span t) = (bounded_chunk (nat_lt (span_len span) (bytes - state.passed)) (bytes - state.passed) span t (ending_at t)
    refl).1
bytes-passes bytes ending_at state (Closed t) = omega arith
bytes-passes bytes ending_at state (Reset t) = omega arith
bytes-passes bytes ending_at state Quiet = omega arith

pub bytes-room : (bytes : ℕ) (ending_at : ℕ → Ending) (state : State) (item : Item) → arrived (bytes_give bytes ending_at state item) ≤ bytes - state.passed
bytes-room bytes ending_at state (Chunk span t) = (bounded_chunk (nat_lt (span_len span) (bytes - state.passed)) (bytes - state.passed) span t (ending_at t)
    refl).0
bytes-room bytes ending_at state (Closed t) = omega arith
bytes-room bytes ending_at state (Reset t) = omega arith
bytes-room bytes ending_at state Quiet = omega arith

table-first_bytes : (n : ℕ) (span : Span) (t : ℕ) (end : Ending) → length (table (first_bytes n span t ++ (final_of end ∷ []))) ≡ n
table-first_bytes zero span t StillOpen = refl
table-first_bytes zero span t (ClosedAt end) = refl
table-first_bytes zero span t (ResetAt end) = refl
table-first_bytes (suc n) span t StillOpen = let width : span.start + suc n - span.start ≡ suc n = omega arith in
    rw width (simp (length-append, length-replicate) (omega arith))
table-first_bytes (suc n) span t (ClosedAt end) = let width : span.start + suc n - span.start ≡ suc n = omega arith in
    rw width (simp (length-append, length-replicate) (omega arith))
table-first_bytes (suc n) span t (ResetAt end) = let width : span.start + suc n - span.start ≡ suc n = omega arith in
    rw width (simp (length-append, length-replicate) (omega arith))

abbrev pub bytes_table : ℕ → (ℕ → Ending) → State → List Item → List ℕ
bytes_table bytes ending_at state items = table (flow_from (counted (bytes_give bytes ending_at)) state items)

bytes_table_chunk : (bytes : ℕ) (ending_at : ℕ → Ending) (span : Span) (t : ℕ) (items : List Item) (previous chunks pieces passed : ℕ) (b : Bool)
    → nat_lt (span_len span) (bytes - passed) ≡ b
    → (passed + (span_len span + 0) ≤ bytes → length (bytes_table bytes ending_at (open_state t (chunks + 1) (pieces + 1) (passed + (span_len span + 0))) items)
    ≡ min (bytes - (passed + (span_len span + 0))) (arrived items)) → passed ≤ bytes
    → length (bytes_table bytes ending_at (open_state previous chunks pieces passed) (Chunk span t ∷ items))
    ≡ min (bytes - passed) (span_len span + arrived items)
bytes_table_chunk bytes ending_at span t items previous chunks pieces passed true e others within =
    let less : span_len span < bytes - passed = ltb-true (span_len span) (bytes - passed) e in
    rw e (simp (length-append, length-replicate) (rw (others (omega arith)) (omega arith)))
bytes_table_chunk bytes ending_at span t items previous chunks pieces passed false e others within =
    let more : bytes - passed ≤ span_len span = ltb-false (span_len span) (bytes - passed) e in
    let given : List Item = first_bytes (bytes - passed) span t ++ (final_of (ending_at t) ∷ []) in
    rw e (rw (flow_from-done (counted (bytes_give bytes ending_at)) (state_after (open_state previous chunks pieces passed) (Chunk span t) given) items
    (has_final-first_bytes (bytes - passed) span t (ending_at t))) (rw (append-nil given)
    (rw (table-first_bytes (bytes - passed) span t (ending_at t)) (omega arith))))

-- so many bytes pass, or all there are
pub length-bytes_table : (bytes : ℕ) (ending_at : ℕ → Ending) (items : List Item) (previous chunks pieces passed position since : ℕ) → passed ≤ bytes
    → IsStreamFrom position since items → length (bytes_table bytes ending_at (open_state previous chunks pieces passed) items)
    ≡ min (bytes - passed) (arrived items)
length-bytes_table bytes ending_at [] previous chunks pieces passed position since within stream = omega arith
length-bytes_table bytes ending_at (Chunk span t ∷ items) previous chunks pieces passed position since within stream =
    bytes_table_chunk bytes ending_at span t items previous chunks pieces passed (nat_lt (span_len span) (bytes - passed)) refl
    (λ fits. length-bytes_table bytes ending_at items t (chunks + 1) (pieces + 1) (passed + (span_len span + 0)) span.stop t fits stream.4) within
length-bytes_table bytes ending_at (Closed t ∷ items) previous chunks pieces passed position since within stream = rw stream.2 (omega arith)
length-bytes_table bytes ending_at (Reset t ∷ items) previous chunks pieces passed position since within stream = rw stream.2 (omega arith)
length-bytes_table bytes ending_at (Quiet ∷ items) previous chunks pieces passed position since within stream = rw stream (omega arith)

first_bytes_within : (n : ℕ) (span : Span) (t : ℕ) (end : Ending) (items : List Item) → n ≤ span_len span
    → LieWithin (Chunk span t ∷ items) (first_bytes n span t ++ (final_of end ∷ []))
first_bytes_within zero span t end items few = final_within (Chunk span t ∷ items) end
first_bytes_within (suc n) span t end items few = (
  in_first (record { start = span.start; stop = span.start + suc n }) span t items (omega arith) (omega arith),
  final_within (Chunk span t ∷ items) end,
)

bytes_within_by : (short : Bool) (room : ℕ) (span : Span) (t : ℕ) (end : Ending) (items : List Item) → nat_lt (span_len span) room ≡ short
    → LieWithin (Chunk span t ∷ items) (if short then Chunk span t ∷ [] else (first_bytes room span t ++ (final_of end ∷ [])))
bytes_within_by true room span t end items is = chunk_within span t t items
bytes_within_by false room span t end items is = first_bytes_within room span t end items (ltb-false (span_len span) room is)

pub bytes_within : (bytes : ℕ) (ending_at : ℕ → Ending) → GivesWithin (bytes_give bytes ending_at)
bytes_within bytes ending_at state (Chunk span t) items = bytes_within_by (nat_lt (span_len span) (bytes - state.passed)) (bytes - state.passed) span t
    (ending_at t) items refl
bytes_within bytes ending_at state (Closed t) items = tt
bytes_within bytes ending_at state (Reset t) items = tt
bytes_within bytes ending_at state Quiet items = tt
