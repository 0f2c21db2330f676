-- latency: it keeps streams and bytes, and its law.
use Rattle.std.proofs.Common.{◌≡◌, ℕ, zero, suc, ◌+◌, ◌-◌, ◌*◌, ◌≤◌, max, true, List, [], ◌∷◌, ◌++◌, refl, arith, inl, ◌%◌, map, replicate, ap, false}
use Rattle.tox_time.specs.declared.streams.item.Item.{Item}
use Rattle.tox_time.specs.declared.streams.item.Item.TheVariants.{Chunk, Closed, Reset, Quiet}
use Rattle.tox_time.specs.Time.{horizon, plus}
use Rattle.tox_time.specs.streams.Stream.{span_len, is_final, IsStreamFrom}
use Rattle.tox_time.specs.streams.Table.{table, ending, final_of}
use Rattle.tox_defs.specs.stage.Reaction.{counted, flow_from}
use Rattle.tox_defs.specs.toxics.Latency.{delay_gives, latency_gives}
use Rattle.tox_defs.proofs.OpenStates.{open_state}
use Rattle.tox_defs.proofs.KeepingStreams.{counted_follows, CanFollow, KeepsStreams, IsStreamFrom-flow}
use Rattle.tox_defs.specs.declared.toxic.Toxic.TheVariants.{Latency}
use Rattle.tox_defs.specs.Flow.{toxic_reaction}
use Rattle.tox_defs.proofs.StreamKeepers.{Whatever, in_order_final}
use Rattle.tox_defs.proofs.PassedBytes.{PassesAtMost}
use Rattle.tox_defs.specs.toxics.Varied.{varied}
use Rattle.tox_defs.specs.Laws.{HasLaw}
use Rattle.tox_defs.specs.operations.Op.{IsOp, millis_of, op_of, op_reaction}
use Rattle.tox_defs.specs.toxics.Ranges.{is_in, up_to_hour}
use Rattle.tox_defs.specs.Toxic.{IsInRange, is_within}
use Rattle.tox_defs.specs.operations.During.{during}
use Rattle.tox_defs.proofs.InRange.{both_tests, in_bounds}
use Rattle.tox_defs.proofs.Windows.{during-passes, during_keeps}
use Rattle.tox_defs.proofs.ToxicFacts.{DelaysByHour, ToxicFacts}
use Rattle.tox_defs.proofs.Within.{GivesWithin, chunk_within}
use Rattle.tox_words.specs.Draw.{Draws}
use Rattle.std.proofs.lemmas.Bool.{and_parts}
use Rattle.std.proofs.lemmas.Grind.{common_steps}
use mathlib.Core.Path.{fun_ext}
use Rattle.tox_time.specs.declared.streams.ending.Ending.{Ending}
use Rattle.tox_time.specs.declared.streams.ending.Ending.TheVariants.{StillOpen, Closed as ClosedAt, Reset as ResetAt}
use Rattle.tox_defs.specs.declared.operations.state.State.{State}
use Rattle.tox_defs.proofs.OpFacts.{OpFacts}
use Rattle.tox_defs.specs.declared.operations.op.Op.TheVariants.{Delay}

delayed_final : (wait : ℕ → ℕ) (previous chunks pieces passed : ℕ) (item : Item) (position since : ℕ) → previous ≤ horizon → is_final item ≡ true
    → CanFollow position since item → IsStreamFrom position previous (delay_gives wait (open_state previous chunks pieces passed) item)
delayed_final wait previous chunks pieces passed (Chunk span t) position since fits final follows = absurd (cc)
delayed_final wait previous chunks pieces passed (Closed t) position since fits final follows =
    in_order_final previous position since (Closed t) fits final follows
delayed_final wait previous chunks pieces passed (Reset t) position since fits final follows =
    in_order_final previous position since (Reset t) fits final follows
delayed_final wait previous chunks pieces passed Quiet position since fits final follows = refl

pub delayed_keeps : (wait : ℕ → ℕ) → KeepsStreams Whatever (counted (delay_gives wait))
delayed_keeps wait = record {
  at_chunk = λ previous chunks pieces passed span t since fits related some late instant.
      inl (record { in_row = (refl, some, omega arith, omega (arith, fits), refl); no_final = refl; related = tt; instant = omega (arith, fits) });
  at_final = λ previous chunks pieces passed item position since fits related final follows.
      delayed_final wait previous chunks pieces passed item position since fits final follows;
  follows = counted_follows (delay_gives wait);
}

pub delayed-passes : (wait : ℕ → ℕ) → PassesAtMost (counted (delay_gives wait))
delayed-passes wait state (Chunk span t) = omega arith
delayed-passes wait state (Closed t) = omega arith
delayed-passes wait state (Reset t) = omega arith
delayed-passes wait state Quiet = omega arith

map_replicate : (f : ℕ → ℕ) (n t : ℕ) (ts : List ℕ) → map f (replicate n t ++ ts) ≡ replicate n (f t) ++ map f ts
map_replicate f zero t ts = refl
map_replicate f (suc n) t ts = ap (λ us. f t ∷ us) (map_replicate f n t ts)

-- a latency without jitter moves every instant by the same
pub table-latency : (latency : ℕ) (words : ℕ → ℕ) (items : List Item) (previous chunks pieces passed position since : ℕ)
    → previous ≤ plus since (1000 * latency) → IsStreamFrom position since items
    → table (flow_from (toxic_reaction (Latency latency 0 0 0) words) (open_state previous chunks pieces passed) items)
    ≡ map (λ t. plus t (1000 * latency)) (table items)
table-latency latency words [] previous chunks pieces passed position since order stream = refl
table-latency latency words (Chunk span t ∷ items) previous chunks pieces passed position since order stream =
    let leaves : max previous (plus t (1000 * ((latency + words (1 + chunks) % 1) - 0))) ≡ plus t (1000 * latency) = omega (arith, stream.2) in
    let others : table (flow_from (toxic_reaction (Latency latency 0 0 0) words)
    (open_state (max previous (plus t (1000 * ((latency + words (1 + chunks) % 1) - 0)))) (chunks + 1) (pieces + 1) (passed + (span_len span + 0))) items)
    ≡ map (λ t. plus t (1000 * latency)) (table items) =
    table-latency latency words items (max previous (plus t (1000 * ((latency + words (1 + chunks) % 1) - 0)))) (chunks + 1) (pieces + 1)
    (passed + (span_len span + 0)) span.stop t (omega (arith, leaves)) stream.4 in
    rw (map_replicate (λ t. plus t (1000 * latency)) (span_len span) t (table items)) (cc (ap (λ at. replicate (span_len span) at) leaves, others))
table-latency latency words (Closed t ∷ items) previous chunks pieces passed position since order stream = rw stream.2 refl
table-latency latency words (Reset t ∷ items) previous chunks pieces passed position since order stream = rw stream.2 refl
table-latency latency words (Quiet ∷ items) previous chunks pieces passed position since order stream = rw stream refl

-- its operation reacts as it does
latency_reacts : (latency jitter until from place : ℕ) (draws : Draws) → op_reaction (op_of place (Latency latency jitter until from)) draws
    ≡ toxic_reaction (Latency latency jitter until from) (draws place)
latency_reacts latency zero until from place draws =
    let waits : (chunk : ℕ) → 1000 * (latency + varied 0 0 (draws 0 (1 + chunk))) ≡ 1000 * varied latency 0 (draws place (1 + chunk)) = λ chunk. omega arith in
    ap (λ wait. during from until (counted (delay_gives wait))) (fun_ext waits)
latency_reacts latency (suc jitter) until from place draws =
    let waits : (chunk : ℕ) → 1000 * (0 + varied latency (suc jitter) (draws place (1 + chunk)))
    ≡ 1000 * varied latency (suc jitter) (draws place (1 + chunk)) = λ chunk. omega arith in
    ap (λ wait. during from until (counted (delay_gives wait))) (fun_ext waits)

latency_is_op : (latency jitter until from place : ℕ) → IsOp (op_of place (Latency latency jitter until from))
latency_is_op latency zero until from place = refl
latency_is_op latency (suc jitter) until from place = tt

-- without jitter it delays by the latency
latency_delays : (latency jitter until from : ℕ) → DelaysByHour (Latency latency jitter until from)
latency_delays latency zero until from place fits =
    let within = both_tests (is_within (Latency latency 0 until from)) false fits in
    (in_bounds up_to_hour latency (and_parts (is_in up_to_hour latency) _ within.0).0).1
latency_delays latency (suc jitter) until from place fits = omega arith

latency_within : (latency jitter : ℕ) (words : ℕ → ℕ) → GivesWithin (latency_gives latency jitter words)
latency_within latency jitter words state (Chunk span t) items =
    chunk_within span t (max state.previous (plus t (1000 * varied latency jitter (words (1 + state.chunks))))) items
latency_within latency jitter words state (Closed t) items = tt
latency_within latency jitter words state (Reset t) items = tt
latency_within latency jitter words state Quiet items = tt

latency_law : (latency jitter until from : ℕ) → HasLaw (Latency latency jitter until from)
latency_law latency zero zero zero start never words items list = table-latency latency words items 0 0 0 0 0 0 (omega arith) list.0
latency_law latency zero zero (suc from) start never words items list = absurd (cc)
latency_law latency zero (suc until) from start never words items list = absurd (cc)
latency_law latency (suc jitter) until from start never words items list = tt

pub latency_facts : (latency jitter until from : ℕ) → ToxicFacts (Latency latency jitter until from)
latency_facts latency jitter until from = record {
  reacts = latency_reacts latency jitter until from;
  is_op = λ place fits. latency_is_op latency jitter until from place;
  delays = latency_delays latency jitter until from;
  passes = λ words. during-passes from until _ (delayed-passes (λ chunk. 1000 * varied latency jitter (words (1 + chunk))));
  within = latency_within latency jitter;
  law = λ fits. latency_law latency jitter until from;
  spelled = record { word = refl; named = refl; words = refl; known = refl; apart = refl; keys = refl; made = refl };
  short = λ inside. grind (arith, common_steps);
}

delay_final : (wait other : ℕ → ℕ) (state : State) (end : Ending) → delay_gives wait state (final_of end)
    ≡ final_of (ending (delay_gives other state (final_of end))) ∷ []
delay_final wait other state StillOpen = refl
delay_final wait other state (ClosedAt t) = refl
delay_final wait other state (ResetAt t) = refl

pub delay_facts : (fixed latency jitter lane until from : ℕ) → OpFacts (Delay fixed latency jitter lane until from)
delay_facts fixed latency jitter lane until from = record {
  streams = λ draws items fits stream.
      IsStreamFrom-flow Whatever _ (during_keeps from until _ (delayed_keeps (λ chunk. 1000 * (fixed + varied latency jitter (draws lane (1 + chunk)))))) items
      0 0 0 0 0 0 (omega arith) tt stream;
  final = λ draws. delay_final (λ chunk. 1000 * (fixed + varied latency jitter (draws lane (1 + chunk)))) (λ chunk. 1000 * (fixed + varied latency jitter 0));
}
