-- timeout: it gives its final alone, and its law.
use Rattle.std.proofs.Common.{◌≡◌, ℕ, ◌+◌, ◌-◌, ◌*◌, ◌≤◌, min, List, [], ◌∷◌, refl, arith, zero, suc, ap, sym, None, length, length-append}
use Rattle.std.proofs.lemmas.List.{length-replicate}
use Rattle.tox_time.specs.declared.streams.item.Item.{Item}
use Rattle.tox_time.specs.declared.streams.item.Item.TheVariants.{Chunk, Closed, Reset, Quiet}
use Rattle.tox_time.specs.streams.Stream.{IsStreamFrom, arrived}
use Rattle.tox_time.specs.declared.streams.ending.Ending.{Ending}
use Rattle.tox_time.specs.declared.streams.ending.Ending.TheVariants.{StillOpen, Closed as ClosedAt, Reset as ResetAt}
use Rattle.tox_time.specs.streams.Table.{final_of, table, ending}
use Rattle.tox_time.specs.Time.{micros_of}
use Rattle.tox_words.specs.Draw.{Draws}
use Rattle.tox_defs.specs.Flow.{toxic_giving, toxic_reaction}
use Rattle.tox_defs.specs.stage.Reaction.{counted, first_state, flow, flow_from}
use Rattle.tox_defs.specs.toxics.FirstBytes.{bytes_give}
use Rattle.tox_defs.specs.toxics.Halt.{halt_gives, raised}
use Rattle.tox_defs.proofs.ToxicProofs.FirstBytes.{length-bytes_table}
use Rattle.tox_defs.proofs.ToxicProofs.Halting.{All-sooner, halt-passes, halt_within, halted-before, halted-few}
use Rattle.tox_defs.specs.toxics.Timeout.{mute_gives}
use Rattle.tox_defs.proofs.OpenStates.{open_state}
use Rattle.tox_defs.proofs.FlowLemmas.{flow_from-last}
use Rattle.tox_defs.proofs.PassedBytes.{PassesAtMost}
use Rattle.tox_defs.specs.declared.toxic.Toxic.TheVariants.{Timeout}
use Rattle.tox_defs.specs.Laws.{HasLaw}
use Rattle.tox_defs.specs.operations.Op.{EndsInTime, IsOp, millis_of, op_of, op_reaction}
use Rattle.tox_defs.specs.toxics.Timeout.{LeavesAtMost, timeout_ending, timeout_start}
use Rattle.tox_defs.proofs.ToxicFacts.{DelaysByHour, ToxicFacts}
use Rattle.tox_defs.proofs.Within.{GivesWithin, final_within}
use Rattle.std.proofs.lemmas.Grind.{common_steps}
use Rattle.tox_defs.specs.declared.operations.state.State.{State}
use Rattle.tox_defs.proofs.OpFacts.{OpFacts}
use Rattle.tox_defs.proofs.Finals.{IsStream-final, ending-final_of}
use Rattle.tox_defs.specs.declared.operations.op.Op.TheVariants.{Mute}

-- a mute gives its final alone
pub flow_from-muted : (final : Item) (items : List Item) (previous chunks pieces passed position since : ℕ) → IsStreamFrom position since items
    → flow_from (counted (mute_gives final)) (open_state previous chunks pieces passed) items ≡ final ∷ []
flow_from-muted final [] previous chunks pieces passed position since stream = absurd stream
flow_from-muted final (Chunk span t ∷ items) previous chunks pieces passed position since stream =
    flow_from-muted final items previous (chunks + 1) (pieces + 0) (passed + 0) span.stop t stream.4
flow_from-muted final (Closed t ∷ items) previous chunks pieces passed position since stream =
    flow_from-last (counted (mute_gives final)) (open_state previous chunks pieces passed) (Closed t) items stream.2
flow_from-muted final (Reset t ∷ items) previous chunks pieces passed position since stream =
    flow_from-last (counted (mute_gives final)) (open_state previous chunks pieces passed) (Reset t) items stream.2
flow_from-muted final (Quiet ∷ items) previous chunks pieces passed position since stream =
    flow_from-last (counted (mute_gives final)) (open_state previous chunks pieces passed) Quiet items stream

arrived-final : (ending : Ending) → arrived (final_of ending ∷ []) ≡ 0
arrived-final StillOpen = refl
arrived-final (ClosedAt t) = refl
arrived-final (ResetAt t) = refl

pub muted-passes : (ending : Ending) → PassesAtMost (counted (mute_gives (final_of ending)))
muted-passes ending state (Chunk span t) = omega arith
muted-passes ending state (Closed t) = omega (arith, arrived-final ending)
muted-passes ending state (Reset t) = omega (arith, arrived-final ending)
muted-passes ending state Quiet = omega (arith, arrived-final ending)

-- a mute lets no byte through
pub table-muted : (final : Item) (items : List Item) (previous chunks pieces passed position since : ℕ) → table (final ∷ []) ≡ []
    → IsStreamFrom position since items → table (flow_from (counted (mute_gives final)) (open_state previous chunks pieces passed) items) ≡ []
table-muted final [] previous chunks pieces passed position since bare stream = refl
table-muted final (Chunk span t ∷ items) previous chunks pieces passed position since bare stream =
    table-muted final items _ _ _ _ span.stop t bare stream.4
table-muted final (Closed t ∷ items) previous chunks pieces passed position since bare stream = rw stream.2 bare
table-muted final (Reset t ∷ items) previous chunks pieces passed position since bare stream = rw stream.2 bare
table-muted final (Quiet ∷ items) previous chunks pieces passed position since bare stream = rw stream bare

muted_within : (ending : Ending) → GivesWithin (mute_gives (final_of ending))
muted_within ending state (Chunk span t) items = tt
muted_within ending state (Closed t) items = final_within (Closed t ∷ items) ending
muted_within ending state (Reset t) items = final_within (Reset t ∷ items) ending
muted_within ending state Quiet items = final_within (Quiet ∷ items) ending

timeout_in_time : (timeout : ℕ) → EndsInTime (timeout_ending timeout)
timeout_in_time zero = tt
timeout_in_time (suc timeout) = omega arith

timeout_reacts : (timeout from after place : ℕ) (draws : Draws) → op_reaction (op_of place (Timeout timeout from after)) draws
    ≡ toxic_reaction (Timeout timeout from after) (draws place)
timeout_reacts timeout zero zero place draws = refl
timeout_reacts timeout zero (suc after) place draws = refl
timeout_reacts timeout (suc from) after place draws = refl

timeout_is_op : (timeout from after place : ℕ) → IsOp (op_of place (Timeout timeout from after))
timeout_is_op timeout zero zero place = timeout_in_time timeout
timeout_is_op timeout zero (suc after) place = (tt, timeout_in_time timeout)
timeout_is_op timeout (suc from) after place = (omega arith, timeout_in_time timeout)

timeout_delays : (timeout from after : ℕ) → DelaysByHour (Timeout timeout from after)
timeout_delays timeout zero zero place fits = omega arith
timeout_delays timeout zero (suc after) place fits = omega arith
timeout_delays timeout (suc from) after place fits = omega arith

timeout_passes : (timeout from after : ℕ) (words : ℕ → ℕ) → PassesAtMost (toxic_reaction (Timeout timeout from after) words)
timeout_passes timeout zero zero words = muted-passes (timeout_ending timeout)
timeout_passes timeout zero (suc after) words = halt-passes None (suc after) (timeout_ending timeout)
timeout_passes timeout (suc from) after words = halt-passes (timeout_start (suc from)) after (timeout_ending timeout)

timeout_within : (timeout from after : ℕ) (words : ℕ → ℕ) → GivesWithin (toxic_giving (Timeout timeout from after) words)
timeout_within timeout zero zero words = muted_within (timeout_ending timeout)
timeout_within timeout zero (suc after) words = halt_within None (suc after) (timeout_ending timeout)
timeout_within timeout (suc from) after words = halt_within (timeout_start (suc from)) after (timeout_ending timeout)

bare_ending : (timeout : ℕ) → table (final_of (timeout_ending timeout) ∷ []) ≡ []
bare_ending zero = refl
bare_ending (suc timeout) = refl

length-table : (items : List Item) → length (table items) ≡ arrived items
length-table [] = refl
length-table (Chunk span t ∷ items) = simp (length-append, length-replicate) (rw (length-table items) refl)
length-table (Closed t ∷ items) = length-table items
length-table (Reset t ∷ items) = length-table items
length-table (Quiet ∷ items) = length-table items

behind_bytes : (timeout from after : ℕ) (items : List Item) → LeavesAtMost after
    (flow (counted (halt_gives (timeout_start (suc from)) after (timeout_ending timeout))) items)
behind_bytes timeout from zero items = tt
behind_bytes timeout from (suc after) items =
    let few : 0 + arrived (flow (counted (halt_gives (timeout_start (suc from)) (suc after) (timeout_ending timeout))) items) ≤ suc after =
    halted-few (micros_of (suc from)) after (timeout_ending timeout) first_state items (omega arith) in
    omega (arith, few, length-table (flow (counted (halt_gives (timeout_start (suc from)) (suc after) (timeout_ending timeout))) items))

timeout_law : (timeout from after : ℕ) → HasLaw (Timeout timeout from after)
timeout_law timeout zero zero start never words items list = table-muted (final_of (timeout_ending timeout)) items 0 0 0 0 0 0 (bare_ending timeout) list.0
timeout_law timeout zero (suc after) start never words items list =
    let passed : length (table (flow (counted (bytes_give (suc after) (raised (timeout_ending timeout)))) items)) ≡ min (suc after - 0) (arrived items) =
    length-bytes_table (suc after) (raised (timeout_ending timeout)) items 0 0 0 0 0 0 (omega arith) list.0 in
    (tt, omega (arith, passed))
timeout_law timeout (suc from) after start never words items list = (
  All-sooner (micros_of (suc from)) (1000 * suc from) _ (omega arith) (halted-before (micros_of (suc from)) after (timeout_ending timeout) first_state items),
  behind_bytes timeout from after items,
)

pub timeout_facts : (timeout from after : ℕ) → ToxicFacts (Timeout timeout from after)
timeout_facts timeout from after = record {
  reacts = timeout_reacts timeout from after;
  is_op = λ place fits. timeout_is_op timeout from after place;
  delays = timeout_delays timeout from after;
  passes = timeout_passes timeout from after;
  within = timeout_within timeout from after;
  law = λ fits. timeout_law timeout from after;
  spelled = record { word = refl; named = refl; words = refl; known = refl; apart = refl; keys = refl; made = refl };
  short = λ inside. grind (arith, common_steps);
}

mute_final : (last : Ending) (state : State) (end : Ending) → mute_gives (final_of last) state (final_of end)
    ≡ final_of (ending (mute_gives (final_of last) state (final_of end))) ∷ []
mute_final last state StillOpen = ap (λ end. final_of end ∷ []) (sym (ending-final_of last))
mute_final last state (ClosedAt t) = ap (λ end. final_of end ∷ []) (sym (ending-final_of last))
mute_final last state (ResetAt t) = ap (λ end. final_of end ∷ []) (sym (ending-final_of last))

pub mute_facts : (ending : Ending) → OpFacts (Mute ending)
mute_facts ending = record {
  streams = λ draws items fits stream. rw (flow_from-muted (final_of ending) items 0 0 0 0 0 0 stream) (IsStream-final ending fits);
  final = λ draws. mute_final ending;
}
