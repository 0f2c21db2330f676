-- What ends a link later: it keeps streams and bytes, gives nothing from its instant on, and no more than its bytes.
use Rattle.std.proofs.Common.{rules, tests, ◌≡◌, ℕ, zero, suc, ◌+◌, ◌-◌, ◌<◌, ◌≤◌, Bool, true, false, List, [], ◌∷◌, ◌++◌, refl, arith, inl, inr, ◌⊎◌}
use Rattle.std.proofs.Common.{if◌then◌else◌, Option, None, Some}
use Rattle.std.specs.Prelude.{nat_lt, All}
use Rattle.std.specs.Ordering.{is_le, nat_cmp}
use Rattle.std.proofs.lemmas.Bool.{ltb-true}
use Rattle.std.proofs.lemmas.List.Elements.{All-append, All-cons, All-head, All-nil, All-replicate, All-tail}
use Rattle.tox_time.specs.Time.{horizon}
use Rattle.tox_time.specs.declared.streams.span.Span.{Span}
use Rattle.tox_time.specs.declared.streams.item.Item.{Item}
use Rattle.tox_time.specs.declared.streams.item.Item.TheVariants.{Chunk, Closed, Reset, Quiet}
use Rattle.tox_time.specs.declared.streams.ending.Ending.{Ending}
use Rattle.tox_time.specs.declared.streams.ending.Ending.TheVariants.{StillOpen, Closed as ClosedAt, Reset as ResetAt}
use Rattle.tox_time.specs.streams.Stream.{span_len, is_final, IsStreamFrom, arrived}
use Rattle.tox_time.specs.streams.Table.{table, ending, final_of}
use Rattle.tox_time.proofs.StreamLemmas.{arrived-append, table-append}
use Rattle.tox_defs.specs.declared.operations.op.Op.TheVariants.{Halt}
use Rattle.tox_defs.specs.declared.operations.state.State.{State}
use Rattle.tox_defs.specs.operations.Op.{EndsInTime, MayBegin}
use Rattle.tox_defs.specs.stage.Reaction.{Answer, Giving, counted, flow_from, react, state_after}
use Rattle.tox_defs.specs.toxics.FirstBytes.{bytes_give, first_bytes}
use Rattle.tox_defs.specs.toxics.Halt.{halt_after, halt_gives, is_before, raised}
use Rattle.tox_defs.proofs.KeepingStreams.{counted_follows, CanFollow, GoesOn, EndsThere, KeepsStreams, IsStreamFrom-flow}
use Rattle.tox_defs.proofs.OpenStates.{open_state}
use Rattle.tox_defs.proofs.OpFacts.{OpFacts, one_final}
use Rattle.tox_defs.proofs.PassedBytes.{PassesAtMost}
use Rattle.tox_defs.proofs.StreamKeepers.{NotAfterEither, unchanged_final}
use Rattle.tox_defs.proofs.ToxicProofs.FirstBytes.{EndsPast, bytes_at_final, bytes_chunk, bytes_final, bytes-passes, bytes-room, bytes_within}
use Rattle.tox_defs.proofs.Within.{GivesWithin, LieWithin, final_within, item_within}

-- a number that isn't at most another is greater
pub not_le_is_lt : (a b : ℕ) → false ≡ is_le (nat_cmp a b) → nat_lt b a ≡ true
not_le_is_lt a b e = search (rules, tests)

-- with bytes it waits for them
pub halt_after-some : (after : ℕ) (end : Ending) (state : State) (item : Item) → (after ≡ 0 → ⊥)
    → halt_after after end state item ≡ bytes_give after (raised end) state item
halt_after-some zero end state item some = absurd (some refl)
halt_after-some (suc bytes) end state item some = refl

-- a raised ending is at or past its instant
raised-past : (end : Ending) (t : ℕ) → EndsInTime end → t ≤ horizon → EndsPast t (raised end t)
raised-past StillOpen t in_time fits = tt
raised-past (ClosedAt end) t in_time fits = (omega arith, omega (arith, in_time, fits))
raised-past (ResetAt end) t in_time fits = (omega arith, omega (arith, in_time, fits))

-- an ending alone
ends_there : (position previous t : ℕ) (end : Ending) → previous ≤ t → EndsPast t end → IsStreamFrom position previous (final_of end ∷ [])
ends_there position previous t StillOpen before past = refl
ends_there position previous t (ClosedAt end) before past = (omega (arith, before, past.0), past.1, refl)
ends_there position previous t (ResetAt end) before past = (omega (arith, before, past.0), past.1, refl)

has_final-final_of : (position previous : ℕ) (end : Ending) → IsStreamFrom position previous (final_of end ∷ [])
    → EndsThere (final_of end ∷ []) position previous
has_final-final_of position previous StillOpen stream = record { a_final = refl; in_row = stream }
has_final-final_of position previous (ClosedAt t) stream = record { a_final = refl; in_row = stream }
has_final-final_of position previous (ResetAt t) stream = record { a_final = refl; in_row = stream }

-- a chunk before the instant
after_chunk : (bound after : ℕ) (end : Ending) (previous chunks pieces passed : ℕ) (span : Span) (t : ℕ) → EndsInTime end → previous ≤ t → t ≤ bound
    → span.start < span.stop → t ≤ horizon
    → GoesOn (NotAfterEither bound) (halt_after after end (open_state previous chunks pieces passed) (Chunk span t)) span.start previous span.stop t
    ⊎ EndsThere (halt_after after end (open_state previous chunks pieces passed) (Chunk span t)) span.start previous
after_chunk bound zero end previous chunks pieces passed span t in_time before within some fits =
    inl (record { in_row = (refl, some, before, fits, refl); no_final = refl; related = (omega arith, within); instant = fits })
after_chunk bound (suc bytes) end previous chunks pieces passed span t in_time before within some fits =
    bytes_chunk (NotAfterEither bound) (suc bytes) (raised end) previous chunks pieces passed span t (nat_lt (span_len span) (suc bytes - passed)) refl before
    (omega arith, within) some fits (raised-past end t in_time fits)

after_at_final : (after : ℕ) (end : Ending) (previous chunks pieces passed : ℕ) (item : Item) (position since : ℕ) → previous ≤ since → is_final item ≡ true
    → CanFollow position since item
    → IsStreamFrom position previous (halt_after after end (open_state previous chunks pieces passed) item)
after_at_final zero end previous chunks pieces passed item position since before final follows =
    unchanged_final previous position since item before final follows
after_at_final (suc bytes) end previous chunks pieces passed item position since before final follows =
    bytes_at_final (suc bytes) (raised end) previous chunks pieces passed item position since before final follows

-- the latest instant at which something passes
abbrev bound_of : Option ℕ → ℕ
bound_of None = horizon
bound_of (Some at) = at

halted_chunk : (at after : ℕ) (end : Ending) (previous chunks pieces passed : ℕ) (span : Span) (t since : ℕ) (b : Bool) → nat_lt t at ≡ b → EndsInTime end
    → at ≤ horizon → NotAfterEither at previous since → span.start < span.stop → since ≤ t → t ≤ horizon
    → GoesOn (NotAfterEither at) (halt_gives (Some at) after end (open_state previous chunks pieces passed) (Chunk span t)) span.start previous span.stop t
    ⊎ EndsThere (halt_gives (Some at) after end (open_state previous chunks pieces passed) (Chunk span t)) span.start previous
halted_chunk at after end previous chunks pieces passed span t since true e in_time from before some late fits =
    let less : t < at = ltb-true t at e in
    rw e (after_chunk at after end previous chunks pieces passed span t in_time (omega (arith, before.0, late)) (omega (arith, less)) some fits)
halted_chunk at after end previous chunks pieces passed span t since false e in_time from before some late fits =
    rw e (inr (has_final-final_of span.start previous (raised end at) (ends_there span.start previous at (raised end at) before.1
    (raised-past end at in_time from))))

halted_final : (at after : ℕ) (end : Ending) (previous chunks pieces passed : ℕ) (item : Item) (position since : ℕ) (b : Bool) → is_before at item ≡ b
    → EndsInTime end → at ≤ horizon → NotAfterEither at previous since → is_final item ≡ true → CanFollow position since item
    → IsStreamFrom position previous (halt_gives (Some at) after end (open_state previous chunks pieces passed) item)
halted_final at after end previous chunks pieces passed item position since true e in_time from before final follows =
    rw e (after_at_final after end previous chunks pieces passed item position since before.0 final follows)
halted_final at after end previous chunks pieces passed item position since false e in_time from before final follows =
    rw e (ends_there position previous at (raised end at) before.1 (raised-past end at in_time from))

halt_keeps : (at : Option ℕ) (after : ℕ) (end : Ending) → MayBegin at → EndsInTime end
    → KeepsStreams (NotAfterEither (bound_of at)) (counted (halt_gives at after end))
halt_keeps None after end from in_time = record {
  at_chunk = λ previous chunks pieces passed span t since fits before some late t_fits.
      after_chunk horizon after end previous chunks pieces passed span t in_time (omega (arith, before.0, late)) t_fits some t_fits;
  at_final = λ previous chunks pieces passed item position since fits before final follows.
      after_at_final after end previous chunks pieces passed item position since before.0 final follows;
  follows = counted_follows (halt_gives None after end);
}
halt_keeps (Some at) after end from in_time = record {
  at_chunk = λ previous chunks pieces passed span t since fits before some late t_fits.
      halted_chunk at after end previous chunks pieces passed span t since (nat_lt t at) refl in_time from before some late t_fits;
  at_final = λ previous chunks pieces passed item position since fits before final follows.
      halted_final at after end previous chunks pieces passed item position since (is_before at item) refl in_time from before final follows;
  follows = counted_follows (halt_gives (Some at) after end);
}

arrived-final_of : (end : Ending) → arrived (final_of end ∷ []) ≡ 0
arrived-final_of StillOpen = refl
arrived-final_of (ClosedAt t) = refl
arrived-final_of (ResetAt t) = refl

after-passes : (after : ℕ) (end : Ending) → PassesAtMost (counted (halt_after after end))
after-passes zero end state item = omega arith
after-passes (suc bytes) end state item = bytes-passes (suc bytes) (raised end) state item

halted-passes : (before : Bool) (after : ℕ) (end last : Ending) (state : State) (item : Item)
    → arrived (if before then halt_after after end state item else (final_of last ∷ [])) ≤ arrived (item ∷ [])
halted-passes true after end last state item = after-passes after end state item
halted-passes false after end last state item = omega (arith, arrived-final_of last)

-- a halt gives no more bytes than it took
pub halt-passes : (at : Option ℕ) (after : ℕ) (end : Ending) → PassesAtMost (counted (halt_gives at after end))
halt-passes None after end state item = after-passes after end state item
halt-passes (Some at) after end state item = halted-passes (is_before at item) after end (raised end at) state item

after-within : (after : ℕ) (end : Ending) → GivesWithin (halt_after after end)
after-within zero end state item items = item_within item items
after-within (suc bytes) end state item items = bytes_within (suc bytes) (raised end) state item items

halted-within : (before : Bool) (after : ℕ) (end last : Ending) (state : State) (item : Item) (items : List Item)
    → LieWithin (item ∷ items) (if before then halt_after after end state item else (final_of last ∷ []))
halted-within true after end last state item items = after-within after end state item items
halted-within false after end last state item items = final_within (item ∷ items) last

-- what it gives for a chunk lies in the chunk
pub halt_within : (at : Option ℕ) (after : ℕ) (end : Ending) → GivesWithin (halt_gives at after end)
halt_within None after end state item items = after-within after end state item items
halt_within (Some at) after end state item items = halted-within (is_before at item) after end (raised end at) state item items

-- what it gives for a final
after-final : (after : ℕ) (end : Ending) (state : State) (final : Ending) → halt_after after end state (final_of final) ≡ final_of final ∷ []
after-final zero end state final = refl
after-final (suc bytes) end state final = bytes_final (suc bytes) (raised end) state final

halted-final : (before : Bool) (after : ℕ) (end last : Ending) (state : State) (final : Ending)
    → (if before then halt_after after end state (final_of final) else (final_of last ∷ [])) ≡ final_of (if before then final else last) ∷ []
halted-final true after end last state final = after-final after end state final
halted-final false after end last state final = refl

pub halt-final : (at : ℕ) (after : ℕ) (end : Ending) (state : State) (final : Ending)
    → halt_gives (Some at) after end state (final_of final) ≡ final_of (if is_before at (final_of final) then final else raised end at) ∷ []
halt-final at after end state final = halted-final (is_before at (final_of final)) after end (raised end at) state final

halt_final : (at : Option ℕ) (after : ℕ) (end : Ending) (state : State) (final : Ending)
    → halt_gives at after end state (final_of final) ≡ final_of (ending (halt_gives at after end state (final_of final))) ∷ []
halt_final None after end state final = one_final _ final (after-final after end state final)
halt_final (Some at) after end state final = one_final _ (if is_before at (final_of final) then final else raised end at) (halt-final at after end state final)

bound-from : (at : Option ℕ) → NotAfterEither (bound_of at) 0 0
bound-from None = (omega arith, omega arith)
bound-from (Some at) = (omega arith, omega arith)

pub halt_facts : (at : Option ℕ) (after : ℕ) (end : Ending) → OpFacts (Halt at after end)
halt_facts at after end = record {
  streams = λ draws items fits stream.
      IsStreamFrom-flow (NotAfterEither (bound_of at)) (counted (halt_gives at after end)) (halt_keeps at after end fits.0 fits.1) items 0 0 0 0 0 0
      (omega arith) (bound-from at) stream;
  final = λ draws. halt_final at after end;
}

-- if all that is given for an item leaves before an instant, all that is given does
all_by : (done : Bool) (giving : Giving) (instant : ℕ) (state : State) (item : Item) (items : List Item) → All (λ t. t < instant) (table (giving state item))
    → ((later : State) → All (λ t. t < instant) (table (flow_from (counted giving) later items)))
    → (answer : Answer) → answer ≡ (if done then (record { state = state; given = [] }) else counted giving state item)
    → All (λ t. t < instant) (table (answer.given ++ flow_from (counted giving) answer.state items))
all_by true giving instant state item items first others answer is = rw is (others state)
all_by false giving instant state item items first others answer is =
    rw is (rw (table-append (giving state item) (flow_from (counted giving) (state_after state item (giving state item)) items))
    (All-append (λ t. t < instant) _ _ first (others (state_after state item (giving state item)))))

all_before : (giving : Giving) (instant : ℕ) → ((state : State) (item : Item) → All (λ t. t < instant) (table (giving state item)))
    → (state : State) (items : List Item) → All (λ t. t < instant) (table (flow_from (counted giving) state items))
all_before giving instant each state [] = All-nil (λ t. t < instant)
all_before giving instant each state (item ∷ items) =
    all_by state.done giving instant state item items (each state item) (λ later. all_before giving instant each later items)
    (react (counted giving) state item) refl

table-final_of : (end : Ending) → table (final_of end ∷ []) ≡ []
table-final_of StillOpen = refl
table-final_of (ClosedAt t) = refl
table-final_of (ResetAt t) = refl

first_bytes-before : (n : ℕ) (span : Span) (t at : ℕ) (end : Ending) → t < at → All (λ t. t < at) (table (first_bytes n span t ++ (final_of end ∷ [])))
first_bytes-before zero span t at end less = rw (table-final_of end) (All-nil (λ t. t < at))
first_bytes-before (suc n) span t at end less =
    rw (table-final_of end) (All-append (λ t. t < at) _ _ (All-replicate (λ t. t < at) (span.start + suc n - span.start) t less) (All-nil (λ t. t < at)))

short-before : (short : Bool) (room : ℕ) (span : Span) (t at : ℕ) (end : Ending) → t < at
    → All (λ t. t < at) (table (if short then Chunk span t ∷ [] else (first_bytes room span t ++ (final_of end ∷ []))))
short-before true room span t at end less = All-append (λ t. t < at) _ _ (All-replicate (λ t. t < at) (span_len span) t less) (All-nil (λ t. t < at))
short-before false room span t at end less = first_bytes-before room span t at end less

after-before : (after : ℕ) (end : Ending) (state : State) (span : Span) (t at : ℕ) → t < at
    → All (λ t. t < at) (table (halt_after after end state (Chunk span t)))
after-before zero end state span t at less = All-append (λ t. t < at) _ _ (All-replicate (λ t. t < at) (span_len span) t less) (All-nil (λ t. t < at))
after-before (suc bytes) end state span t at less = short-before (nat_lt (span_len span) (suc bytes - state.passed)) (suc bytes - state.passed) span t at
    (raised end t) less

chunk-before : (b : Bool) (at after : ℕ) (end last : Ending) (state : State) (span : Span) (t : ℕ) → nat_lt t at ≡ b
    → All (λ t. t < at) (table (if b then halt_after after end state (Chunk span t) else (final_of last ∷ [])))
chunk-before true at after end last state span t e = after-before after end state span t at (ltb-true t at e)
chunk-before false at after end last state span t e = rw (table-final_of last) (All-nil (λ t. t < at))

final-before : (at after : ℕ) (end : Ending) (state : State) (final : Ending)
    → All (λ t. t < at) (table (halt_gives (Some at) after end state (final_of final)))
final-before at after end state final =
    rw (halt-final at after end state final) (rw (table-final_of (if is_before at (final_of final) then final else raised end at)) (All-nil (λ t. t < at)))

gives-before : (at after : ℕ) (end : Ending) (state : State) (item : Item) → All (λ t. t < at) (table (halt_gives (Some at) after end state item))
gives-before at after end state (Chunk span t) = chunk-before (nat_lt t at) at after end (raised end at) state span t refl
gives-before at after end state (Closed t) = final-before at after end state (ClosedAt t)
gives-before at after end state (Reset t) = final-before at after end state (ResetAt t)
gives-before at after end state Quiet = final-before at after end state StillOpen

-- no byte leaves a halt at or after its instant
pub halted-before : (at after : ℕ) (end : Ending) (state : State) (items : List Item)
    → All (λ t. t < at) (table (flow_from (counted (halt_gives (Some at) after end)) state items))
halted-before at after end state items = all_before (halt_gives (Some at) after end) at (gives-before at after end) state items

-- what gives no more than it has room for at each item gives no more than that in all
few_by : (done : Bool) (giving : Giving) (bytes : ℕ) (state : State) (item : Item) (items : List Item) → state.passed ≤ bytes
    → arrived (giving state item) ≤ bytes - state.passed
    → ((later : State) → later.passed ≤ bytes → later.passed + arrived (flow_from (counted giving) later items) ≤ bytes)
    → (answer : Answer) → answer ≡ (if done then (record { state = state; given = [] }) else counted giving state item)
    → state.passed + arrived (answer.given ++ flow_from (counted giving) answer.state items) ≤ bytes
few_by true giving bytes state item items within few others answer is = rw is (others state within)
few_by false giving bytes state item items within few others answer is =
    let later : State = state_after state item (giving state item) in
    rw is (omega (arith, arrived-append (giving state item) (flow_from (counted giving) later items), few, others later (omega (arith, within, few))))

few_in_all : (giving : Giving) (bytes : ℕ) → ((state : State) (item : Item) → state.passed ≤ bytes → arrived (giving state item) ≤ bytes - state.passed)
    → (state : State) (items : List Item) → state.passed ≤ bytes → state.passed + arrived (flow_from (counted giving) state items) ≤ bytes
few_in_all giving bytes each state [] within = omega (arith, within)
few_in_all giving bytes each state (item ∷ items) within =
    few_by state.done giving bytes state item items within (each state item within) (λ later. few_in_all giving bytes each later items)
    (react (counted giving) state item) refl

halted-room : (before : Bool) (bytes : ℕ) (end last : Ending) (state : State) (item : Item)
    → arrived (if before then bytes_give (suc bytes) (raised end) state item else (final_of last ∷ [])) ≤ suc bytes - state.passed
halted-room true bytes end last state item = bytes-room (suc bytes) (raised end) state item
halted-room false bytes end last state item = omega (arith, arrived-final_of last)

-- no more bytes leave a halt than it says
pub halted-few : (at bytes : ℕ) (end : Ending) (state : State) (items : List Item) → state.passed ≤ suc bytes
    → state.passed + arrived (flow_from (counted (halt_gives (Some at) (suc bytes) end)) state items) ≤ suc bytes
halted-few at bytes end state items within =
    few_in_all (halt_gives (Some at) (suc bytes) end) (suc bytes) (λ state item fits. halted-room (is_before at item) bytes end (raised end at) state item)
    state items within

-- what is before one instant is before a later one
pub All-sooner : (instant later : ℕ) (ts : List ℕ) → instant ≤ later → All (λ at. at < instant) ts → All (λ at. at < later) ts
All-sooner instant later [] order sooner = All-nil (λ at. at < later)
All-sooner instant later (t ∷ ts) order sooner =
    let first : t < instant = All-head (λ at. at < instant) t ts sooner in
    All-cons (λ at. at < later) t ts (omega (arith, first, order)) (All-sooner instant later ts order (All-tail (λ at. at < instant) t ts sooner))
