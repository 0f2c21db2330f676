-- slow_close: it keeps streams and bytes, and its law.
use Rattle.std.proofs.Common.{◌≡◌, ℕ, ◌≤◌, true, List, [], ◌∷◌, ◌++◌, refl, arith, inl, replicate, ap, false, ◌*◌}
use Rattle.tox_time.specs.Time.{horizon}
use Rattle.tox_time.specs.declared.streams.item.Item.{Item}
use Rattle.tox_time.specs.declared.streams.item.Item.TheVariants.{Chunk, Closed, Reset, Quiet}
use Rattle.tox_time.specs.streams.Stream.{span_len, is_final, IsStreamFrom}
use Rattle.tox_time.specs.streams.Table.{table, ending, final_of}
use Rattle.tox_defs.specs.stage.Reaction.{counted, flow_from}
use Rattle.tox_defs.specs.toxics.SlowClose.{slow_gives}
use Rattle.tox_defs.proofs.OpenStates.{open_state}
use Rattle.tox_defs.proofs.KeepingStreams.{counted_follows, CanFollow, KeepsStreams, IsStreamFrom-flow}
use Rattle.tox_defs.specs.declared.toxic.Toxic.TheVariants.{SlowClose}
use Rattle.tox_defs.specs.Flow.{toxic_reaction}
use Rattle.tox_defs.proofs.StreamKeepers.{NotAfter, unchanged_final}
use Rattle.tox_defs.proofs.PassedBytes.{PassesAtMost}
use Rattle.tox_defs.specs.toxics.Ranges.{is_in, up_to_hour}
use Rattle.tox_defs.specs.Toxic.{IsInRange, is_within}
use Rattle.tox_defs.proofs.InRange.{both_tests, in_bounds}
use Rattle.tox_defs.proofs.ToxicFacts.{DelaysByHour, ToxicFacts}
use Rattle.tox_defs.proofs.Within.{GivesWithin, chunk_within}
use Rattle.std.proofs.lemmas.Bool.{and_parts}
use Rattle.std.proofs.lemmas.Grind.{common_steps}
use Rattle.tox_time.specs.declared.streams.ending.Ending.{Ending}
use Rattle.tox_time.specs.declared.streams.ending.Ending.TheVariants.{StillOpen, Closed as ClosedAt, Reset as ResetAt}
use Rattle.tox_defs.specs.declared.operations.state.State.{State}
use Rattle.tox_defs.proofs.OpFacts.{OpFacts}
use Rattle.tox_defs.specs.declared.operations.op.Op.TheVariants.{Slow}

closed_later_final : (micros previous chunks pieces passed : ℕ) (item : Item) (position since : ℕ) → previous ≤ since → previous ≤ horizon
    → is_final item ≡ true → CanFollow position since item → IsStreamFrom position previous (slow_gives micros (open_state previous chunks pieces passed) item)
closed_later_final micros previous chunks pieces passed (Chunk span t) position since before fits final follows = absurd (cc)
closed_later_final micros previous chunks pieces passed (Closed t) position since before fits final follows =
    (omega (arith, before, fits, follows.0), omega arith, refl)
closed_later_final micros previous chunks pieces passed (Reset t) position since before fits final follows =
    unchanged_final previous position since (Reset t) before final follows
closed_later_final micros previous chunks pieces passed Quiet position since before fits final follows = refl

pub closed_later_keeps : (micros : ℕ) → KeepsStreams NotAfter (counted (slow_gives micros))
closed_later_keeps micros = record {
  at_chunk = λ previous chunks pieces passed span t since fits before some late instant.
      inl (record { in_row = (refl, some, omega (arith, before, late), instant, refl); no_final = refl; related = omega arith; instant = instant });
  at_final = λ previous chunks pieces passed item position since fits before final follows.
      closed_later_final micros previous chunks pieces passed item position since before fits final follows;
  follows = counted_follows (slow_gives micros);
}

pub closed_later-passes : (micros : ℕ) → PassesAtMost (counted (slow_gives micros))
closed_later-passes micros state (Chunk span t) = omega arith
closed_later-passes micros state (Closed t) = omega arith
closed_later-passes micros state (Reset t) = omega arith
closed_later-passes micros state Quiet = omega arith

-- slow_close leaves every chunk as it is
pub table-slow_close : (delay : ℕ) (words : ℕ → ℕ) (items : List Item) (previous chunks pieces passed position since : ℕ) → IsStreamFrom position since items
    → table (flow_from (toxic_reaction (SlowClose delay) words) (open_state previous chunks pieces passed) items) ≡ table items
table-slow_close delay words [] previous chunks pieces passed position since stream = refl
table-slow_close delay words (Chunk span t ∷ items) previous chunks pieces passed position since stream =
    ap (λ ts. replicate (span_len span) t ++ ts) (table-slow_close delay words items _ _ _ _ span.stop t stream.4)
table-slow_close delay words (Closed t ∷ items) previous chunks pieces passed position since stream = rw stream.2 refl
table-slow_close delay words (Reset t ∷ items) previous chunks pieces passed position since stream = rw stream.2 refl
table-slow_close delay words (Quiet ∷ items) previous chunks pieces passed position since stream = rw stream refl

slow_within : (micros : ℕ) → GivesWithin (slow_gives micros)
slow_within micros state (Chunk span t) items = chunk_within span t t items
slow_within micros state (Closed t) items = tt
slow_within micros state (Reset t) items = tt
slow_within micros state Quiet items = tt

-- it delays a close by its delay
slow_delays : (delay : ℕ) → DelaysByHour (SlowClose delay)
slow_delays delay place fits =
    let within = both_tests (is_within (SlowClose delay)) false fits in
    (in_bounds up_to_hour delay (and_parts (is_in up_to_hour delay) true within.0).0).1

pub slow_close_facts : (delay : ℕ) → ToxicFacts (SlowClose delay)
slow_close_facts delay = record {
  reacts = λ place draws. refl;
  is_op = λ place fits. tt;
  delays = slow_delays delay;
  passes = λ words. closed_later-passes (1000 * delay);
  within = λ words. slow_within (1000 * delay);
  law = λ fits start never words items list. table-slow_close delay words items 0 0 0 0 0 0 list.0;
  spelled = record { word = refl; named = refl; words = refl; known = refl; apart = refl; keys = refl; made = refl };
  short = λ inside. grind (arith, common_steps);
}

slow_final : (micros : ℕ) (state : State) (end : Ending) → slow_gives micros state (final_of end)
    ≡ final_of (ending (slow_gives micros state (final_of end))) ∷ []
slow_final micros state StillOpen = refl
slow_final micros state (ClosedAt t) = refl
slow_final micros state (ResetAt t) = refl

pub slow_facts : (millis : ℕ) → OpFacts (Slow millis)
slow_facts millis = record {
  streams = λ draws items fits stream. IsStreamFrom-flow NotAfter (counted (slow_gives (1000 * millis))) (closed_later_keeps (1000 * millis)) items 0 0 0 0 0 0
      (omega arith) (omega arith) stream;
  final = λ draws. slow_final (1000 * millis);
}
