-- By when streams have ended behind operations.
use Rattle.std.proofs.Common.{◌≡◌, ℕ, zero, suc, ◌+◌, ◌-◌, ◌*◌, ◌%◌, ◌<◌, ◌≤◌, min, max, Bool, true, false, List, [], ◌∷◌, ◌++◌, Option, Some, None, refl}
use Rattle.std.proofs.Common.{arith, ◌⊎◌, inl, inr, if◌then◌else◌}
use Rattle.std.specs.Prelude.{nat_lt, All, fold}
use Rattle.std.proofs.lemmas.Bool.{ltb-true, ltb-false}
use Rattle.std.proofs.lemmas.List.Elements.{All-head, All-tail}
use Rattle.std.proofs.Math.Nat.{mod-lt}
use Rattle.tox_time.specs.declared.streams.span.Span.{Span}
use Rattle.tox_time.specs.declared.streams.item.Item.{Item}
use Rattle.tox_time.specs.declared.streams.item.Item.TheVariants.{Chunk, Closed, Reset, Quiet}
use Rattle.tox_time.specs.declared.streams.ending.Ending.{Ending}
use Rattle.tox_time.specs.declared.streams.ending.Ending.TheVariants.{Closed as ClosedAt, Reset as ResetAt}
use Rattle.tox_time.specs.Time.{IsInstant, plus}
use Rattle.tox_time.specs.streams.Stream.{span_len, is_final, IsStream, IsStreamFrom}
use Rattle.tox_time.specs.streams.Table.{final_of}
use Rattle.tox_words.specs.Draw.{Draws, draw_in}
use Rattle.tox_defs.specs.declared.operations.op.Op.{Op}
use Rattle.tox_defs.specs.declared.operations.op.Op.TheVariants.{Delay, Slow, Cutoff, Limit, Halt}
use Rattle.tox_defs.specs.declared.operations.state.State.{State}
use Rattle.tox_defs.specs.operations.During.{during, is_outside, uncounted_answer}
use Rattle.tox_defs.specs.operations.Op.{IsOp, op_reaction}
use Rattle.tox_defs.specs.stage.Reaction.{Answer, Reaction, counted, flow, flow_from, flow_through, state_after}
use Rattle.tox_defs.specs.toxics.FirstBytes.{first_bytes}
use Rattle.tox_defs.specs.toxics.Halt.{halt_after, halt_gives, raised}
use Rattle.tox_defs.specs.toxics.Latency.{delay_gives}
use Rattle.tox_defs.specs.toxics.Varied.{varied}
use Rattle.tox_defs.proofs.OpenStates.{open_state}
use Rattle.tox_defs.proofs.OpStreams.{IsStream-op_flow}
use Rattle.tox_defs.proofs.Windows.{is_outside-final}
use Rattle.tox_compile.specs.Meaning.{earlier, op_reactions}
use Rattle.tox_plan.specs.EndsBy.{LeavesBy, EachToFinal, EndsBy, MayEndBy, EndsBehind, EndsEachStream}

-- the answer of a reaction that counts what it takes and gives
abbrev answer_of : State → Item → List Item → Answer
answer_of state item given = record { state = state_after state item given; given = given }

-- one chunk leaves by an instant, and the state is that behind it
record GoesOnBy (bound : ℕ) (answer : Answer) : Type 0 where
  pub span : Span
  pub instant : ℕ
  pub chunks : ℕ
  pub pieces : ℕ
  pub passed : ℕ
  pub by_then : instant ≤ bound
  pub given : answer.given ≡ Chunk span instant ∷ []
  pub state : answer.state ≡ open_state instant chunks pieces passed

-- it goes on so, or ends by then
abbrev StepsBy : ℕ → Answer → Type 0
StepsBy bound answer = GoesOnBy bound answer ⊎ EndsBy bound answer.given

EndsBy-append : (bound : ℕ) (given rest : List Item) → EndsBy bound given → EndsBy bound (given ++ rest)
EndsBy-append bound [] rest ends = absurd ends
EndsBy-append bound (Chunk span t ∷ items) rest ends = (ends.0, EndsBy-append bound items rest ends.1)
EndsBy-append bound (Closed t ∷ items) rest ends = ends
EndsBy-append bound (Reset t ∷ items) rest ends = ends
EndsBy-append bound (Quiet ∷ items) rest ends = absurd ends

steps-end : (bound : ℕ) (reaction : Reaction) (answer : Answer) (items : List Item) → StepsBy bound answer
    → ((previous chunks pieces passed : ℕ) → previous ≤ bound → EndsBy bound (flow_from reaction (open_state previous chunks pieces passed) items))
    → EndsBy bound (answer.given ++ flow_from reaction answer.state items)
steps-end bound reaction answer items (inl on) others = rw (on.given, on.state) (on.by_then, others on.instant on.chunks on.pieces on.passed on.by_then)
steps-end bound reaction answer items (inr ended) others = EndsBy-append bound answer.given (flow_from reaction answer.state items) ended

-- what ends a list item by item ends it whole
module _ (P : Item → Type 0) (bound : ℕ) (reaction : Reaction)
    (at_chunk : (previous chunks pieces passed : ℕ) (span : Span) (t : ℕ) → previous ≤ bound → P (Chunk span t)
    → StepsBy bound (reaction (open_state previous chunks pieces passed) (Chunk span t)))
    (at_final : (previous chunks pieces passed : ℕ) (item : Item) → previous ≤ bound → is_final item ≡ true → P item
    → EndsBy bound (reaction (open_state previous chunks pieces passed) item).given) where
  EndsBy-flow_from : (items : List Item) (previous chunks pieces passed : ℕ) → previous ≤ bound → EachToFinal P items
      → EndsBy bound (flow_from reaction (open_state previous chunks pieces passed) items)
  EndsBy-flow_from [] previous chunks pieces passed order each = absurd each
  EndsBy-flow_from (Chunk span t ∷ items) previous chunks pieces passed order each =
      steps-end bound reaction (reaction (open_state previous chunks pieces passed) (Chunk span t)) items
      (at_chunk previous chunks pieces passed span t order each.0)
      (λ previous' chunks' pieces' passed' order'. EndsBy-flow_from items previous' chunks' pieces' passed' order' each.1)
  EndsBy-flow_from (Closed t ∷ items) previous chunks pieces passed order each =
      EndsBy-append bound (reaction (open_state previous chunks pieces passed) (Closed t)).given _
      (at_final previous chunks pieces passed (Closed t) order refl each)
  EndsBy-flow_from (Reset t ∷ items) previous chunks pieces passed order each =
      EndsBy-append bound (reaction (open_state previous chunks pieces passed) (Reset t)).given _
      (at_final previous chunks pieces passed (Reset t) order refl each)
  EndsBy-flow_from (Quiet ∷ items) previous chunks pieces passed order each =
      EndsBy-append bound (reaction (open_state previous chunks pieces passed) Quiet).given _ (at_final previous chunks pieces passed Quiet order refl each)

-- a chunk alone
one_chunk : (bound previous chunks pieces passed : ℕ) (span : Span) (t : ℕ) → t ≤ bound
    → StepsBy bound (answer_of (open_state previous chunks pieces passed) (Chunk span t) (Chunk span t ∷ []))
one_chunk bound previous chunks pieces passed span t by_then =
    inl (record { span = span; instant = t; chunks = _; pieces = _; passed = _; by_then = by_then; given = refl; state = refl })

-- a delayed chunk leaves by its wait past the instant
module _ (due wait : ℕ) (waits : ℕ → ℕ) (within : (chunk : ℕ) → waits chunk ≤ wait) (fits : IsInstant due) (from until : ℕ) where
  delay_chunk : (outside : Bool) (previous chunks pieces passed : ℕ) (span : Span) (t : ℕ) → previous ≤ plus due wait → t ≤ due
      → StepsBy (plus due wait) (if outside then uncounted_answer (open_state previous chunks pieces passed) (Chunk span t) else counted (delay_gives waits)
      (open_state previous chunks pieces passed) (Chunk span t))
  delay_chunk true previous chunks pieces passed span t order by_then =
      inl (record {
        span = span;
        instant = max previous t;
        chunks = _;
        pieces = _;
        passed = _;
        by_then = omega (arith, order, by_then, fits);
        given = refl;
        state = refl;
      })
  delay_chunk false previous chunks pieces passed span t order by_then =
      let bounded : waits chunks ≤ wait = within chunks in
      inl (record {
        span = span;
        instant = max previous (plus t (waits chunks));
        chunks = _;
        pieces = _;
        passed = _;
        by_then =
            omega (arith, order, by_then, bounded);
        given = refl;
        state = refl;
      })

  delay_final : (previous chunks pieces passed : ℕ) (item : Item) → previous ≤ plus due wait → is_final item ≡ true → LeavesBy due item
      → EndsBy (plus due wait) (during from until (counted (delay_gives waits)) (open_state previous chunks pieces passed) item).given
  delay_final previous chunks pieces passed (Chunk span t) order final by_then = absurd (cc)
  delay_final previous chunks pieces passed (Closed t) order final by_then = rw (is_outside-final from until (ClosedAt t)) (omega (arith, order, by_then, fits))
  delay_final previous chunks pieces passed (Reset t) order final by_then = rw (is_outside-final from until (ResetAt t)) (omega (arith, order, by_then, fits))
  delay_final previous chunks pieces passed Quiet order final by_then = absurd by_then

  delay_ends : (items : List Item) → EndsBy due items → EndsBy (plus due wait) (flow (during from until (counted (delay_gives waits))) items)
  delay_ends items ends =
      EndsBy-flow_from (LeavesBy due) (plus due wait) (during from until (counted (delay_gives waits)))
      (λ previous chunks pieces passed span t order by_then. delay_chunk (is_outside from until (Chunk span t)) previous chunks pieces passed span t order
      by_then)
      delay_final items 0 0 0 0 (omega arith) ends

varied-below : (middle variation word : ℕ) → varied middle variation word ≤ middle + variation
varied-below middle variation word =
    let below : word % (2 * variation + 1) < 2 * variation + 1 = mod-lt word (omega arith) in omega (arith, below)

pub delay-ends : (due fixed latency jitter lane until from : ℕ) → EndsBehind (Delay fixed latency jitter lane until from) (Some due)
    (Some (plus due (1000 * (fixed + latency + jitter))))
delay-ends due fixed latency jitter lane until from draws items stream ends = (
  omega arith,
  delay_ends due (1000 * (fixed + latency + jitter)) (λ chunk. 1000 * (fixed + varied latency jitter (draws lane (1 + chunk))))
      (λ chunk. let below = varied-below latency jitter (draws lane (1 + chunk)) in omega (arith, below)) ends.0 from until items ends.1,
)

-- a close leaves later
module _ (due millis : ℕ) (fits : IsInstant due) (draws : Draws) where
  slow_chunk : (previous chunks pieces passed : ℕ) (span : Span) (t : ℕ) → previous ≤ plus due (1000 * millis) → t ≤ due
      → StepsBy (plus due (1000 * millis)) (op_reaction (Slow millis) draws (open_state previous chunks pieces passed) (Chunk span t))
  slow_chunk previous chunks pieces passed span t order by_then = one_chunk (plus due (1000 * millis)) previous chunks pieces passed span t
      (omega (arith, by_then, fits))

  slow_final : (previous chunks pieces passed : ℕ) (item : Item) → previous ≤ plus due (1000 * millis) → is_final item ≡ true → LeavesBy due item
      → EndsBy (plus due (1000 * millis)) (op_reaction (Slow millis) draws (open_state previous chunks pieces passed) item).given
  slow_final previous chunks pieces passed (Chunk span t) order final by_then = absurd (cc)
  slow_final previous chunks pieces passed (Closed t) order final by_then = omega (arith, by_then)
  slow_final previous chunks pieces passed (Reset t) order final by_then = omega (arith, by_then, fits)
  slow_final previous chunks pieces passed Quiet order final by_then = absurd by_then

  slow_ends : (items : List Item) → EndsBy due items → EndsBy (plus due (1000 * millis)) (flow (op_reaction (Slow millis) draws) items)
  slow_ends items ends = EndsBy-flow_from (LeavesBy due) (plus due (1000 * millis)) (op_reaction (Slow millis) draws) slow_chunk slow_final items 0 0 0 0
      (omega arith) ends

pub slow-ends : (due millis : ℕ) → EndsBehind (Slow millis) (Some due) (Some (plus due (1000 * millis)))
slow-ends due millis draws items stream ends = (omega arith, slow_ends due millis ends.0 draws items ends.1)

-- an item of an instant that a cutoff leaves or makes its reset then leaves by a bound
abbrev CutsBy : ℕ → ℕ → ℕ → Type 0
CutsBy instant bound t = (t < instant → t ≤ bound) × (instant ≤ t → instant ≤ bound)

-- what isn't before a cutoff becomes its reset
module _ (instant bound : ℕ) (P : Item → Type 0) (draws : Draws)
    (chunk : (span : Span) (t : ℕ) → P (Chunk span t) → CutsBy instant bound t) (closed : (t : ℕ) → P (Closed t) → CutsBy instant bound t)
    (reset : (t : ℕ) → P (Reset t) → CutsBy instant bound t) (quiet : P Quiet → instant ≤ bound) where
  cut_chunk : (early : Bool) (previous chunks pieces passed : ℕ) (span : Span) (t : ℕ) → nat_lt t instant ≡ early → CutsBy instant bound t
      → StepsBy bound (answer_of (open_state previous chunks pieces passed) (Chunk span t) ((if early then Chunk span t else Reset instant) ∷ []))
  cut_chunk true previous chunks pieces passed span t is cuts = one_chunk bound previous chunks pieces passed span t (cuts.0 (ltb-true t instant is))
  cut_chunk false previous chunks pieces passed span t is cuts = inr (cuts.1 (ltb-false t instant is))

  cut_last : (early : Bool) (item : Item) (t : ℕ) → nat_lt t instant ≡ early → CutsBy instant bound t → (t ≤ bound → EndsBy bound (item ∷ []))
      → EndsBy bound ((if early then item else Reset instant) ∷ [])
  cut_last true item t is cuts ends = ends (cuts.0 (ltb-true t instant is))
  cut_last false item t is cuts ends = cuts.1 (ltb-false t instant is)

  cut_final : (previous chunks pieces passed : ℕ) (item : Item) → previous ≤ bound → is_final item ≡ true → P item
      → EndsBy bound (op_reaction (Cutoff instant) draws (open_state previous chunks pieces passed) item).given
  cut_final previous chunks pieces passed (Chunk span t) order final fits = absurd (cc)
  cut_final previous chunks pieces passed (Closed t) order final fits = cut_last (nat_lt t instant) (Closed t) t refl (closed t fits) (λ by_then. by_then)
  cut_final previous chunks pieces passed (Reset t) order final fits = cut_last (nat_lt t instant) (Reset t) t refl (reset t fits) (λ by_then. by_then)
  cut_final previous chunks pieces passed Quiet order final fits = quiet fits

  cut_ends : (items : List Item) → EachToFinal P items → EndsBy bound (flow (op_reaction (Cutoff instant) draws) items)
  cut_ends items each =
      EndsBy-flow_from P bound (op_reaction (Cutoff instant) draws)
      (λ previous chunks pieces passed span t order fits. cut_chunk (nat_lt t instant) previous chunks pieces passed span t refl (chunk span t fits))
      cut_final items 0 0 0 0 (omega arith) each

-- a stream has a final
each-stream : (items : List Item) (position since : ℕ) → IsStreamFrom position since items → EachToFinal (λ _. Unit {0}) items
each-stream [] position since stream = absurd stream
each-stream (Chunk span t ∷ items) position since stream = (tt, each-stream items span.stop t stream.4)
each-stream (Closed t ∷ items) position since stream = tt
each-stream (Reset t ∷ items) position since stream = tt
each-stream (Quiet ∷ items) position since stream = tt

pub cutoff-ends : (instant : ℕ) (before : Option ℕ) → IsInstant instant → EndsBehind (Cutoff instant) before (earlier instant before)
cutoff-ends instant None fits draws items stream ends = (
  fits,
  cut_ends instant instant (λ _. Unit {0}) draws (λ span t _. (λ early. omega (arith, early), λ late. omega arith))
      (λ t _. (λ early. omega (arith, early), λ late. omega arith)) (λ t _. (λ early. omega (arith, early), λ late. omega arith)) (λ _. omega arith) items
      (each-stream items 0 0 stream),
)
cutoff-ends instant (Some due) fits draws items stream ends =
    let cuts : (t : ℕ) → t ≤ due → CutsBy instant (min instant due) t = λ t by_then.
    (λ early. omega (arith, early, by_then), λ late. omega (arith, late, by_then)) in (
      omega (arith, fits),
      cut_ends instant (min instant due) (LeavesBy due) draws (λ span t by_then. cuts t by_then) cuts cuts (λ never. absurd never) items
          ends.1,
    )

-- the first bytes of a chunk, and an ending by then
first_bytes-end : (bound n : ℕ) (span : Span) (t : ℕ) (rest : List Item) → t ≤ bound → EndsBy bound rest → EndsBy bound (first_bytes n span t ++ rest)
first_bytes-end bound zero span t rest by_then ends = ends
first_bytes-end bound (suc n) span t rest by_then ends = (by_then, ends)

-- a chunk that an ending may follow after so many bytes
bytes_chunk : (bound bytes : ℕ) (ending_at : ℕ → Ending) (fewer : Bool) (previous chunks pieces passed : ℕ) (span : Span) (t : ℕ) → t ≤ bound
    → EndsBy bound (final_of (ending_at t) ∷ [])
    → StepsBy bound (answer_of (open_state previous chunks pieces passed) (Chunk span t)
    (if fewer then Chunk span t ∷ [] else (first_bytes (bytes - passed) span t ++ (final_of (ending_at t) ∷ []))))
bytes_chunk bound bytes ending_at true previous chunks pieces passed span t by_then ends = one_chunk bound previous chunks pieces passed span t by_then
bytes_chunk bound bytes ending_at false previous chunks pieces passed span t by_then ends =
    inr (first_bytes-end bound (bytes - passed) span t (final_of (ending_at t) ∷ []) by_then ends)

-- a limit closes no later than its last chunk
module _ (due bytes : ℕ) (draws : Draws) where
  limit_chunk : (previous chunks pieces passed : ℕ) (span : Span) (t : ℕ) → previous ≤ due → t ≤ due
      → StepsBy due (op_reaction (Limit bytes) draws (open_state previous chunks pieces passed) (Chunk span t))
  limit_chunk previous chunks pieces passed span t order by_then = bytes_chunk due bytes (λ t. ClosedAt t) (nat_lt (span_len span) (bytes - passed)) previous
      chunks pieces passed span t by_then by_then

  limit_final : (previous chunks pieces passed : ℕ) (item : Item) → previous ≤ due → is_final item ≡ true → LeavesBy due item
      → EndsBy due (op_reaction (Limit bytes) draws (open_state previous chunks pieces passed) item).given
  limit_final previous chunks pieces passed (Chunk span t) order final by_then = absurd (cc)
  limit_final previous chunks pieces passed (Closed t) order final by_then = by_then
  limit_final previous chunks pieces passed (Reset t) order final by_then = by_then
  limit_final previous chunks pieces passed Quiet order final by_then = absurd by_then

  limit_ends : (items : List Item) → EndsBy due items → EndsBy due (flow (op_reaction (Limit bytes) draws) items)
  limit_ends items ends = EndsBy-flow_from (LeavesBy due) due (op_reaction (Limit bytes) draws) limit_chunk limit_final items 0 0 0 0 (omega arith) ends

pub limit-ends : (due bytes : ℕ) → EndsBehind (Limit bytes) (Some due) (Some due)
limit-ends due bytes draws items stream ends = (ends.0, limit_ends due bytes draws items ends.1)

-- a halt raises its ending to the item at which it begins
module _ (due bound : ℕ) (within : due ≤ bound) (at : Option ℕ) (after : ℕ) (end : Ending)
    (raises : (t : ℕ) → t ≤ due → EndsBy bound (final_of (raised end t) ∷ [])) (draws : Draws) where
  after_chunk : (after previous chunks pieces passed : ℕ) (span : Span) (t : ℕ) → t ≤ due
      → StepsBy bound (answer_of (open_state previous chunks pieces passed) (Chunk span t)
      (halt_after after end (open_state previous chunks pieces passed) (Chunk span t)))
  after_chunk zero previous chunks pieces passed span t by_then = one_chunk bound previous chunks pieces passed span t (omega (arith, within, by_then))
  after_chunk (suc bytes) previous chunks pieces passed span t by_then =
      bytes_chunk bound (suc bytes) (raised end) (nat_lt (span_len span) (suc bytes - passed)) previous chunks pieces passed span t
      (omega (arith, within, by_then)) (raises t by_then)

  before_chunk : (at : ℕ) (early : Bool) (previous chunks pieces passed : ℕ) (span : Span) (t : ℕ) → nat_lt t at ≡ early → t ≤ due
      → StepsBy bound (answer_of (open_state previous chunks pieces passed) (Chunk span t)
      (if early then halt_after after end (open_state previous chunks pieces passed) (Chunk span t) else (final_of (raised end at) ∷ [])))
  before_chunk at true previous chunks pieces passed span t is by_then = after_chunk after previous chunks pieces passed span t by_then
  before_chunk at false previous chunks pieces passed span t is by_then = let late = ltb-false t at is in inr (raises at (omega (arith, late, by_then)))

  halt_chunk : (at : Option ℕ) (previous chunks pieces passed : ℕ) (span : Span) (t : ℕ) → t ≤ due
      → StepsBy bound (answer_of (open_state previous chunks pieces passed) (Chunk span t)
      (halt_gives at after end (open_state previous chunks pieces passed) (Chunk span t)))
  halt_chunk None previous chunks pieces passed span t by_then = after_chunk after previous chunks pieces passed span t by_then
  halt_chunk (Some at) previous chunks pieces passed span t by_then = before_chunk at (nat_lt t at) previous chunks pieces passed span t refl by_then

  after_closed : (after : ℕ) (state : State) (t : ℕ) → t ≤ due → EndsBy bound (halt_after after end state (Closed t))
  after_closed zero state t by_then = omega (arith, within, by_then)
  after_closed (suc bytes) state t by_then = omega (arith, within, by_then)

  after_reset : (after : ℕ) (state : State) (t : ℕ) → t ≤ due → EndsBy bound (halt_after after end state (Reset t))
  after_reset zero state t by_then = omega (arith, within, by_then)
  after_reset (suc bytes) state t by_then = omega (arith, within, by_then)

  before_final : (at t : ℕ) (early : Bool) (given : List Item) → nat_lt t at ≡ early → t ≤ due → EndsBy bound given
      → EndsBy bound (if early then given else (final_of (raised end at) ∷ []))
  before_final at t true given is by_then ends = ends
  before_final at t false given is by_then ends = let late = ltb-false t at is in raises at (omega (arith, late, by_then))

  halt_final : (at : Option ℕ) (state : State) (item : Item) → is_final item ≡ true → LeavesBy due item → EndsBy bound (halt_gives at after end state item)
  halt_final at state (Chunk span t) final by_then = absurd (cc)
  halt_final None state (Closed t) final by_then = after_closed after state t by_then
  halt_final (Some at) state (Closed t) final by_then = before_final at t (nat_lt t at) (halt_after after end state (Closed t)) refl by_then
      (after_closed after state t by_then)
  halt_final None state (Reset t) final by_then = after_reset after state t by_then
  halt_final (Some at) state (Reset t) final by_then = before_final at t (nat_lt t at) (halt_after after end state (Reset t)) refl by_then
      (after_reset after state t by_then)
  halt_final at state Quiet final by_then = absurd by_then

  halt_ends : (items : List Item) → EndsBy due items → EndsBy bound (flow (op_reaction (Halt at after end) draws) items)
  halt_ends items ends =
      EndsBy-flow_from (LeavesBy due) bound (op_reaction (Halt at after end) draws)
      (λ previous chunks pieces passed span t order by_then. halt_chunk at previous chunks pieces passed span t by_then)
      (λ previous chunks pieces passed item order final by_then. halt_final at (open_state previous chunks pieces passed) item final by_then)
      items 0 0 0 0 (omega arith) ends

pub halt-closes : (due : ℕ) (at : Option ℕ) (after end : ℕ) → IsInstant end → EndsBehind (Halt at after (ClosedAt end)) (Some due) (Some (max due end))
halt-closes due at after end fits draws items stream ends =
    (omega (arith, ends.0, fits), halt_ends due (max due end) (omega arith) at after (ClosedAt end) (λ t by_then. omega (arith, by_then)) draws items ends.1)

pub halt-resets : (due : ℕ) (at : Option ℕ) (after end : ℕ) → IsInstant end → EndsBehind (Halt at after (ResetAt end)) (Some due) (Some (max due end))
halt-resets due at after end fits draws items stream ends =
    (omega (arith, ends.0, fits), halt_ends due (max due end) (omega arith) at after (ResetAt end) (λ t by_then. omega (arith, by_then)) draws items ends.1)

-- what is known behind each operation is known behind all
module _ (behind : Option ℕ → Op → Option ℕ) (ends : (due : Option ℕ) (op : Op) → IsOp op → EndsBehind op due (behind due op)) (draws : Draws) where
  MayEndBy-flow_through : (ops : List Op) (due : Option ℕ) (items : List Item) → All IsOp ops → IsStream items → MayEndBy due items
      → MayEndBy (fold behind due ops) (flow_through (op_reactions ops draws) items)
  MayEndBy-flow_through [] due items fit stream ended = ended
  MayEndBy-flow_through (op ∷ ops) due items fit stream ended =
      let here : IsOp op = All-head IsOp op ops fit in
      MayEndBy-flow_through ops (behind due op) (flow (op_reaction op draws) items) (All-tail IsOp op ops fit) (IsStream-op_flow op draws items here stream)
      (ends due op here draws items stream ended)

-- so every stream under a plan ends by the instant that the operations lead to, one after the other
pub EndsEachStream-fold : (behind : Option ℕ → Op → Option ℕ) → ((due : Option ℕ) (op : Op) → IsOp op → EndsBehind op due (behind due op)) → (ops : List Op)
    → EndsEachStream ops (fold behind None ops)
EndsEachStream-fold behind ends ops lanes words items fit stream = MayEndBy-flow_through behind ends (draw_in lanes words) ops None items fit stream tt
