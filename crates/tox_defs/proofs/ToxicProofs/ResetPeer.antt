-- reset_peer: it keeps streams and bytes, and its law.
use Rattle.std.proofs.Common.{◌≡◌, ℕ, zero, suc, ◌-◌, min, ◌∙◌, None, ◌+◌, ◌<◌, ◌≤◌, Bool, true, false, List, [], ◌∷◌, refl, arith, inl, inr, ◌⊎◌}
use Rattle.std.proofs.Common.{if◌then◌else◌, ◌*◌, ap, sym}
use Rattle.std.specs.Prelude.{nat_lt, All}
use Rattle.std.proofs.lemmas.Bool.{ltb-true}
use Rattle.std.proofs.lemmas.List.Elements.{All-append, All-nil, All-replicate}
use Rattle.tox_time.specs.Time.{horizon}
use Rattle.tox_time.specs.declared.streams.span.Span.{Span}
use Rattle.tox_time.specs.declared.streams.item.Item.{Item}
use Rattle.tox_time.specs.declared.streams.item.Item.TheVariants.{Chunk, Closed, Reset, Quiet}
use Rattle.tox_time.specs.streams.Stream.{span_len, is_final, IsStreamFrom, arrived}
use Rattle.tox_time.specs.streams.Table.{table, ending, final_of}
use Rattle.tox_defs.specs.stage.Reaction.{counted, flow_from}
use Rattle.tox_words.specs.Draw.{Draws}
use Rattle.tox_defs.specs.Flow.{toxic_giving, toxic_reaction}
use Rattle.tox_defs.specs.Laws.{HasLaw}
use Rattle.tox_defs.specs.operations.Op.{IsOp, millis_of, op_of, op_reaction}
use Rattle.tox_defs.specs.toxics.Halt.{is_before, raised}
use Rattle.tox_defs.specs.toxics.ResetPeer.{cutoff_gives}
use Rattle.tox_defs.proofs.ToxicProofs.FirstBytes.{length-bytes_table}
use Rattle.tox_defs.proofs.ToxicProofs.Halting.{All-sooner, halt-passes, halt_within}
use Rattle.tox_defs.proofs.OpenStates.{open_state}
use Rattle.tox_defs.proofs.FlowLemmas.{flow_from-done}
use Rattle.tox_defs.proofs.KeepingStreams.{counted_follows, CanFollow, GoesOn, EndsThere, KeepsStreams, IsStreamFrom-flow}
use Rattle.tox_defs.specs.declared.operations.state.State.{State}
use Rattle.tox_defs.proofs.StreamKeepers.{NotAfterEither, unchanged_final}
use Rattle.tox_defs.proofs.PassedBytes.{PassesAtMost}
use Rattle.tox_defs.specs.declared.toxic.Toxic.TheVariants.{ResetPeer}
use Rattle.tox_defs.proofs.ToxicFacts.{DelaysByHour, ToxicFacts}
use Rattle.tox_defs.proofs.Within.{GivesWithin, LieWithin, item_within}
use Rattle.tox_time.specs.Time.{micros_of}
use Rattle.std.proofs.lemmas.Grind.{common_steps}
use Rattle.tox_time.specs.declared.streams.ending.Ending.{Ending}
use Rattle.tox_time.specs.declared.streams.ending.Ending.TheVariants.{StillOpen, Closed as ClosedAt, Reset as ResetAt}
use Rattle.tox_defs.proofs.OpFacts.{OpFacts}
use Rattle.tox_defs.specs.declared.operations.op.Op.TheVariants.{Cutoff}

cut_off_chunk : (instant previous chunks pieces passed : ℕ) (span : Span) (t since : ℕ) (b : Bool) → nat_lt t instant ≡ b
    → NotAfterEither instant previous since → instant ≤ horizon → span.start < span.stop → since ≤ t → t ≤ horizon
    → GoesOn (NotAfterEither instant) (cutoff_gives instant (open_state previous chunks pieces passed) (Chunk span t)) span.start previous span.stop t
    ⊎ EndsThere (cutoff_gives instant (open_state previous chunks pieces passed) (Chunk span t)) span.start previous
cut_off_chunk instant previous chunks pieces passed span t since true e before within some late fits =
    let less : t < instant = ltb-true t instant e in
    rw e (inl (record {
      in_row = (refl, some, omega (arith, before.0, late), fits, refl);
      no_final = refl;
      related = (omega arith, omega (arith, less));
      instant = fits;
    }))
cut_off_chunk instant previous chunks pieces passed span t since false e before within some late fits =
    rw e (inr (record { a_final = refl; in_row = (before.1, within, refl) }))

cut_off_by : (instant previous chunks pieces passed position since : ℕ) (item : Item) (b : Bool) → is_before instant item ≡ b
    → NotAfterEither instant previous since → instant ≤ horizon → is_final item ≡ true → CanFollow position since item
    → IsStreamFrom position previous (cutoff_gives instant (open_state previous chunks pieces passed) item)
cut_off_by instant previous chunks pieces passed position since item true e before within final follows =
    rw e (unchanged_final previous position since item before.0 final follows)
cut_off_by instant previous chunks pieces passed position since item false e before within final follows = rw e (before.1, within, refl)

pub cut_off_keeps : (instant : ℕ) → instant ≤ horizon → KeepsStreams (NotAfterEither instant) (counted (cutoff_gives instant))
cut_off_keeps instant within = record {
  at_chunk = λ previous chunks pieces passed span t since fits before some late t_fits.
      cut_off_chunk instant previous chunks pieces passed span t since (nat_lt t instant) refl before within some late t_fits;
  at_final = λ previous chunks pieces passed item position since fits before final follows.
      cut_off_by instant previous chunks pieces passed position since item (is_before instant item) refl before within final follows;
  follows = counted_follows (cutoff_gives instant);
}

passes_by : (before : Bool) (item : Item) (instant : ℕ) → arrived ((if before then item else Reset instant) ∷ []) ≤ arrived (item ∷ [])
passes_by true item instant = omega arith
passes_by false item instant = omega arith

pub cut_off-passes : (instant : ℕ) → PassesAtMost (counted (cutoff_gives instant))
cut_off-passes instant state item = passes_by (is_before instant item) item instant

abbrev cut_table : ℕ → State → List Item → List ℕ
cut_table instant state items = table (flow_from (counted (cutoff_gives instant)) state items)

-- a chunk, by whether it is before the cutoff
cut_table_chunk : (instant : ℕ) (span : Span) (t : ℕ) (items : List Item) (previous chunks pieces passed : ℕ) (b : Bool) → nat_lt t instant ≡ b
    → All (λ at. at < instant) (cut_table instant (open_state t (chunks + 1) (pieces + 1) (passed + (span_len span + 0))) items)
    → All (λ at. at < instant) (cut_table instant (open_state previous chunks pieces passed) (Chunk span t ∷ items))
cut_table_chunk instant span t items previous chunks pieces passed true e others =
    rw e (All-append (λ at. at < instant) _ _ (All-replicate (λ at. at < instant) (span_len span) t (ltb-true t instant e)) others)
cut_table_chunk instant span t items previous chunks pieces passed false e others =
    rw e (rw (flow_from-done (counted (cutoff_gives instant)) (record {
      previous = instant;
      chunks = chunks + 1;
      pieces = pieces + 0;
      passed = passed + 0;
      done = true;
    }) items refl) (All-nil (λ at. at < instant)))

cut_table_final : (instant : ℕ) (final : Item) (previous chunks pieces passed : ℕ) (b : Bool) → is_before instant final ≡ b → table (final ∷ []) ≡ []
    → All (λ at. at < instant) (cut_table instant (open_state previous chunks pieces passed) (final ∷ []))
cut_table_final instant final previous chunks pieces passed true e bare = rw e (rw bare (All-nil (λ at. at < instant)))
cut_table_final instant final previous chunks pieces passed false e bare = rw e (All-nil (λ at. at < instant))

-- no byte leaves a cutoff at or after its instant
pub All-cut_table : (instant : ℕ) (items : List Item) (previous chunks pieces passed position since : ℕ) → IsStreamFrom position since items
    → All (λ at. at < instant) (cut_table instant (open_state previous chunks pieces passed) items)
All-cut_table instant [] previous chunks pieces passed position since stream = All-nil (λ at. at < instant)
All-cut_table instant (Chunk span t ∷ items) previous chunks pieces passed position since stream =
    cut_table_chunk instant span t items previous chunks pieces passed (nat_lt t instant) refl (All-cut_table instant items _ _ _ _ span.stop t stream.4)
All-cut_table instant (Closed t ∷ items) previous chunks pieces passed position since stream =
    rw stream.2 (cut_table_final instant (Closed t) previous chunks pieces passed (nat_lt t instant) refl refl)
All-cut_table instant (Reset t ∷ items) previous chunks pieces passed position since stream =
    rw stream.2 (cut_table_final instant (Reset t) previous chunks pieces passed (nat_lt t instant) refl refl)
All-cut_table instant (Quiet ∷ items) previous chunks pieces passed position since stream = rw stream (All-nil (λ at. at < instant))

cut_off_within : (before : Bool) (item : Item) (instant : ℕ) (items : List Item) → LieWithin (item ∷ items) ((if before then item else Reset instant) ∷ [])
cut_off_within true item instant items = item_within item items
cut_off_within false item instant items = tt

reset_peer_reacts : (timeout after place : ℕ) (draws : Draws) → op_reaction (op_of place (ResetPeer timeout after)) draws
    ≡ toxic_reaction (ResetPeer timeout after) (draws place)
reset_peer_reacts timeout zero place draws = refl
reset_peer_reacts timeout (suc after) place draws = refl

reset_peer_is_op : (timeout after place : ℕ) → IsOp (op_of place (ResetPeer timeout after))
reset_peer_is_op timeout zero place = omega arith
reset_peer_is_op timeout (suc after) place = (tt, omega arith)

reset_peer_delays : (timeout after : ℕ) → DelaysByHour (ResetPeer timeout after)
reset_peer_delays timeout zero place fits = omega arith
reset_peer_delays timeout (suc after) place fits = omega arith

reset_peer_passes : (timeout after : ℕ) (words : ℕ → ℕ) → PassesAtMost (toxic_reaction (ResetPeer timeout after) words)
reset_peer_passes timeout zero words = cut_off-passes (micros_of timeout)
reset_peer_passes timeout (suc after) words = halt-passes None (suc after) (ResetAt (micros_of timeout))

reset_peer_within : (timeout after : ℕ) (words : ℕ → ℕ) → GivesWithin (toxic_giving (ResetPeer timeout after) words)
reset_peer_within timeout zero words state item items = cut_off_within (is_before (micros_of timeout) item) item (micros_of timeout) items
reset_peer_within timeout (suc after) words state item items = halt_within None (suc after) (ResetAt (micros_of timeout)) state item items

reset_peer_law : (timeout after : ℕ) → HasLaw (ResetPeer timeout after)
reset_peer_law timeout zero start never words items list =
    All-sooner (micros_of timeout) (1000 * timeout) _ (omega arith) (All-cut_table (micros_of timeout) items 0 0 0 0 0 0 list.0)
reset_peer_law timeout (suc after) start never words items list =
    let room : min (suc after - 0) (arrived items) ≡ min (suc after) (arrived items) = omega arith in
    length-bytes_table (suc after) (raised (ResetAt (micros_of timeout))) items 0 0 0 0 0 0 (omega arith) list.0 ∙ room

pub reset_peer_facts : (timeout after : ℕ) → ToxicFacts (ResetPeer timeout after)
reset_peer_facts timeout after = record {
  reacts = reset_peer_reacts timeout after;
  is_op = λ place fits. reset_peer_is_op timeout after place;
  delays = reset_peer_delays timeout after;
  passes = reset_peer_passes timeout after;
  within = reset_peer_within timeout after;
  law = λ fits. reset_peer_law timeout after;
  spelled = record { word = refl; named = refl; words = refl; known = refl; apart = refl; keys = refl; made = refl };
  short = λ inside. grind (arith, common_steps);
}

cut_off-final : (instant : ℕ) (state : State) (item : Item) (before : Bool) → is_before instant item ≡ before → final_of (ending (item ∷ [])) ≡ item
    → cutoff_gives instant state item ≡ final_of (ending (cutoff_gives instant state item)) ∷ []
cut_off-final instant state item true e same = rw e (ap (λ final. final ∷ []) (sym same))
cut_off-final instant state item false e same = rw e refl

cutoff_final : (instant : ℕ) (state : State) (end : Ending) → cutoff_gives instant state (final_of end)
    ≡ final_of (ending (cutoff_gives instant state (final_of end))) ∷ []
cutoff_final instant state StillOpen = refl
cutoff_final instant state (ClosedAt t) = cut_off-final instant state (Closed t) (nat_lt t instant) refl refl
cutoff_final instant state (ResetAt t) = cut_off-final instant state (Reset t) (nat_lt t instant) refl refl

pub cutoff_facts : (instant : ℕ) → OpFacts (Cutoff instant)
cutoff_facts instant = record {
  streams = λ draws items fits stream.
      IsStreamFrom-flow (NotAfterEither instant) (counted (cutoff_gives instant)) (cut_off_keeps instant fits) items 0 0 0 0 0 0 (omega arith)
      (omega arith, omega arith) stream;
  final = λ draws. cutoff_final instant;
}
