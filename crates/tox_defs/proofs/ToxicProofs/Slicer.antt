-- slicer: it keeps streams and bytes, what a look finds, and its law.
use Rattle.std.proofs.Common.{◌≡◌, ℕ, zero, suc, ◌+◌, ◌-◌, ◌<◌, ◌≤◌, max, Bool, true, false, List, [], ◌∷◌, refl, arith, inl, inr, ◌⊎◌, min}
use Rattle.std.specs.Prelude.{nat_le, nat_lt, All}
use Rattle.std.proofs.lemmas.Bool.{leb-false, ltb-true, ltb-false}
use Rattle.std.proofs.lemmas.List.Elements.{All-append, All-nil, All-cons, All-same}
use Rattle.tox_time.specs.declared.streams.item.Item.{Item}
use Rattle.tox_time.specs.declared.streams.item.Item.TheVariants.{Chunk, Closed, Reset, Quiet}
use Rattle.tox_time.specs.Time.{horizon, plus}
use Rattle.tox_time.specs.streams.Stream.{span_len, is_final, IsStreamFrom}
use Rattle.tox_time.specs.declared.streams.slice.Slice.{Slice}
use Rattle.tox_defs.specs.stage.Reaction.{counted, flow_from}
use Rattle.tox_defs.specs.toxics.Slicer.{slicing_gives, slicer_gives, IsSized, StopsAt}
use Rattle.tox_defs.specs.toxics.Pieces.{cut, leave, first_span}
use Rattle.tox_defs.proofs.OpenStates.{open_state, has_final-leave}
use Rattle.tox_defs.proofs.FlowLemmas.{flow_from-last}
use Rattle.tox_defs.proofs.KeepingStreams.{counted_follows, CanFollow, KeepsStreams, IsStreamFrom-flow}
use Rattle.tox_defs.specs.declared.operations.state.State.{State}
use Rattle.tox_defs.specs.toxics.Varied.{varied}
use Rattle.tox_defs.specs.declared.operations.look.Look.TheVariants.{Piece}
use Rattle.tox_defs.specs.operations.Look.{Finds}
use Rattle.tox_defs.proofs.Drawn.{varied-positive, varied-within}
use Rattle.tox_defs.proofs.Cutting.{cut_found}
use Rattle.tox_defs.proofs.StreamKeepers.{Whatever, in_order_final, leave_goes_on}
use Rattle.tox_defs.proofs.PassedBytes.{PassesAtMost, arrived-leave}
use Rattle.tox_defs.specs.declared.toxic.Toxic.TheVariants.{Slicer}
use Rattle.tox_defs.specs.Laws.{HasLaw}
use Rattle.tox_defs.specs.Toxic.{IsInRange, is_within}
use Rattle.tox_defs.proofs.InRange.{both_tests}
use Rattle.tox_defs.proofs.Windows.{during-passes, during_keeps}
use Rattle.tox_defs.proofs.ToxicFacts.{ToxicFacts}
use Rattle.tox_defs.proofs.Within.{GivesWithin, leave_within}
use Rattle.std.proofs.lemmas.Grind.{common_steps}
use Rattle.tox_time.specs.declared.streams.ending.Ending.{Ending}
use Rattle.tox_time.specs.declared.streams.ending.Ending.TheVariants.{StillOpen, Closed as ClosedAt, Reset as ResetAt}
use Rattle.tox_time.specs.streams.Table.{ending, final_of}
use Rattle.tox_defs.proofs.OpFacts.{OpFacts}
use Rattle.tox_defs.specs.declared.operations.op.Op.TheVariants.{Slicing}

sliced_final : (size : ℕ → ℕ) (micros previous chunks pieces passed : ℕ) (item : Item) (position since : ℕ) → previous ≤ horizon → is_final item ≡ true
    → CanFollow position since item → IsStreamFrom position previous (slicing_gives size micros (open_state previous chunks pieces passed) item)
sliced_final size micros previous chunks pieces passed (Chunk span t) position since fits final follows = absurd (cc)
sliced_final size micros previous chunks pieces passed (Closed t) position since fits final follows =
    in_order_final previous position since (Closed t) fits final follows
sliced_final size micros previous chunks pieces passed (Reset t) position since fits final follows =
    in_order_final previous position since (Reset t) fits final follows
sliced_final size micros previous chunks pieces passed Quiet position since fits final follows = refl

pub sliced_keeps : (size : ℕ → ℕ) (micros : ℕ) → ((n : ℕ) → 0 < size n) → KeepsStreams Whatever (counted (slicing_gives size micros))
sliced_keeps size micros some_size = record {
  at_chunk = λ previous chunks pieces passed span t since fits related some late instant.
      inl (leave_goes_on size (λ _. micros) some_size pieces previous t span fits some instant);
  at_final = λ previous chunks pieces passed item position since fits related final follows.
      sliced_final size micros previous chunks pieces passed item position since fits final follows;
  follows = counted_follows (slicing_gives size micros);
}

pub sliced-passes : (size : ℕ → ℕ) (micros : ℕ) → PassesAtMost (counted (slicing_gives size micros))
sliced-passes size micros state (Chunk span t) = omega (
  arith,
  arrived-leave size (λ _. micros) state.pieces span.start (span_len span) (span_len span)
      state.previous t,
)
sliced-passes size micros state (Closed t) = omega arith
sliced-passes size micros state (Reset t) = omega arith
sliced-passes size micros state Quiet = omega arith

-- what comes first of a chunk that a slicer cuts
pub slicing_found : (average variation micros : ℕ) (words : ℕ → ℕ) (state : State) (rest piece : Slice) (items : List Item) → variation < average
    → state.done ≡ false → rest.span.start < rest.span.stop
    → piece ≡ record {
      span = first_span (varied average variation (words (1 + state.pieces))) rest.span;
      instant =
          plus (max state.previous rest.instant) micros;
    }
    → Finds (counted (slicer_gives average variation micros words)) state rest items (Piece piece)
slicing_found average variation micros words state rest piece items less running nonempty found =
    cut_found (slicer_gives average variation micros words) (λ piece. varied average variation (words (1 + piece))) (λ _. micros)
    (λ piece. varied-positive average variation (words (1 + piece)) less) (λ state span t. refl) state rest piece items running nonempty found

piece_last : (arrivals : List Item) (least size start left : ℕ) (b : Bool) → nat_lt size (suc left) ≡ b → least ≤ size → StopsAt (start + suc left) arrivals
    → (least ≤ (start + min size (suc left) - start)) ⊎ StopsAt (start + min size (suc left)) arrivals
piece_last arrivals least size start left true e enough stops =
    let less : size < suc left = ltb-true size (suc left) e in inl (omega arith)
piece_last arrivals least size start left false e enough stops =
    let more : suc left ≤ size = ltb-false size (suc left) e in
    let whole : min size (suc left) ≡ suc left = omega arith in inr (rw whole stops)

-- a piece has its size, or is the last
piece_sized : (arrivals : List Item) (least most size start left : ℕ) → ((least ≤ size) × (size ≤ most)) → StopsAt (start + suc left) arrivals
    → ((start + min size (suc left) - start) ≤ most) × ((least ≤ (start + min size (suc left) - start)) ⊎ StopsAt (start + min size (suc left)) arrivals)
piece_sized arrivals least most size start left sized stops =
    (omega arith, piece_last arrivals least size start left (nat_lt size (suc left)) refl sized.0 stops)

-- the pieces of an arrival are sized
leave_sized : (arrivals : List Item) (least most : ℕ) (size wait : ℕ → ℕ) → ((n : ℕ) → (least ≤ size n) × (size n ≤ most))
    → (number start left fuel since t : ℕ) → StopsAt (start + left) arrivals
    → All (IsSized arrivals least most) (leave wait since t (cut size number start left fuel))
leave_sized arrivals least most size wait sizes number start zero fuel since t stops = All-nil (IsSized arrivals least most)
leave_sized arrivals least most size wait sizes number start (suc left) zero since t stops = All-nil (IsSized arrivals least most)
leave_sized arrivals least most size wait sizes number start (suc left) (suc fuel) since t stops =
    let end : start + min (size number) (suc left) + (suc left - size number) ≡ start + suc left = omega arith in
    All-cons (IsSized arrivals least most) _ _
    (piece_sized arrivals least most (size number) start left (sizes number) stops)
    (leave_sized arrivals least most size wait sizes (number + 1) (start + min (size number) (suc left)) (suc left - size number) fuel _ t (rw end stops))

-- every chunk stops where some arrival does
abbrev StopsAmong : List Item → List Item → Type 0
StopsAmong arrivals items = (stop : ℕ) → StopsAt stop items → StopsAt stop arrivals

-- every piece of a slicer is sized
pub All-sliced : (arrivals : List Item) (least most : ℕ) (size : ℕ → ℕ) (micros : ℕ) → ((n : ℕ) → (least ≤ size n) × (size n ≤ most))
    → (items : List Item) (previous chunks pieces passed position since : ℕ) → StopsAmong arrivals items → IsStreamFrom position since items
    → All (IsSized arrivals least most) (flow_from (counted (slicing_gives size micros)) (open_state previous chunks pieces passed) items)
All-sliced arrivals least most size micros sizes [] previous chunks pieces passed position since among stream = All-nil (IsSized arrivals least most)
All-sliced arrivals least most size micros sizes (Chunk span t ∷ items) previous chunks pieces passed position since among stream =
    let whole : span.start + (span.stop - span.start) ≡ span.stop = omega (arith, stream.0, stream.1) in
    let given : List Item = slicing_gives size micros (open_state previous chunks pieces passed) (Chunk span t) in
    rw (has_final-leave (λ _. micros) previous t (cut size pieces span.start (span_len span) (span_len span)))
    (All-append (IsSized arrivals least most) _ _
    (leave_sized arrivals least most size (λ _. micros) sizes pieces span.start (span_len span) (span_len span) previous t
    (rw whole (among span.stop (inl refl))))
    (All-sliced arrivals least most size micros sizes items _ _ _ _ span.stop t (λ stop here. among stop (inr here)) stream.4))
All-sliced arrivals least most size micros sizes (Closed t ∷ items) previous chunks pieces passed position since among stream =
    All-same (IsSized arrivals least most) _ _ (flow_from-last (counted (slicing_gives size micros)) (open_state previous chunks pieces passed) (Closed t) items
    stream.2) (All-cons (IsSized arrivals least most) _ [] tt (All-nil (IsSized arrivals least most)))
All-sliced arrivals least most size micros sizes (Reset t ∷ items) previous chunks pieces passed position since among stream =
    All-same (IsSized arrivals least most) _ _ (flow_from-last (counted (slicing_gives size micros)) (open_state previous chunks pieces passed) (Reset t) items
    stream.2) (All-cons (IsSized arrivals least most) _ [] tt (All-nil (IsSized arrivals least most)))
All-sliced arrivals least most size micros sizes (Quiet ∷ items) previous chunks pieces passed position since among stream =
    All-same (IsSized arrivals least most) _ _ (flow_from-last (counted (slicing_gives size micros)) (open_state previous chunks pieces passed) Quiet items
    stream) (All-cons (IsSized arrivals least most) _ [] tt (All-nil (IsSized arrivals least most)))

slicer_within : (size : ℕ → ℕ) (micros : ℕ) → GivesWithin (slicing_gives size micros)
slicer_within size micros state (Chunk span t) items =
    leave_within size (λ _. micros) state.pieces span.start (span_len span) (span_len span) state.previous t span t items (omega arith) (λ some. omega arith)
slicer_within size micros state (Closed t) items = tt
slicer_within size micros state (Reset t) items = tt
slicer_within size micros state Quiet items = tt

variation-below : (average variation delay until from : ℕ) → IsInRange (Slicer average variation delay until from) → variation < average
variation-below average variation delay until from fits =
    let within = both_tests (is_within (Slicer average variation delay until from)) (nat_le average variation) fits in
    leb-false average variation within.1

slicer_law : (average variation delay until from : ℕ) → variation < average → HasLaw (Slicer average variation delay until from)
slicer_law average variation delay (suc until) from less start never words items list = absurd (cc)
slicer_law average variation delay zero (suc from) less start never words items list = absurd (cc)
slicer_law average variation delay zero zero less start never words items list =
    All-sliced items (average - variation) (average + variation) (λ piece. varied average variation (words (1 + piece))) delay
    (λ piece. varied-within average variation (words (1 + piece))) items 0 0 0 0 0 0 (λ stop here. here) list.0

pub slicer_facts : (average variation delay until from : ℕ) → ToxicFacts (Slicer average variation delay until from)
slicer_facts average variation delay until from = record {
  reacts = λ place draws. refl;
  is_op = λ place. variation-below average variation delay until from;
  delays = λ place fits. omega arith;
  passes = λ words. during-passes from until _ (sliced-passes (λ piece. varied average variation (words (1 + piece))) delay);
  within = λ words. slicer_within (λ piece. varied average variation (words (1 + piece))) delay;
  law = λ fits. slicer_law average variation delay until from (variation-below average variation delay until from fits);
  spelled = record { word = refl; named = refl; words = refl; known = refl; apart = refl; keys = refl; made = refl };
  short = λ inside. grind (arith, common_steps);
}

slicing_final : (size other : ℕ → ℕ) (micros : ℕ) (state : State) (end : Ending)
    → slicing_gives size micros state (final_of end) ≡ final_of (ending (slicing_gives other micros state (final_of end))) ∷ []
slicing_final size other micros state StillOpen = refl
slicing_final size other micros state (ClosedAt t) = refl
slicing_final size other micros state (ResetAt t) = refl

pub slicing_facts : (average variation micros lane until from : ℕ) → OpFacts (Slicing average variation micros lane until from)
slicing_facts average variation micros lane until from = record {
  streams = λ draws items fits stream.
      IsStreamFrom-flow Whatever _ (during_keeps from until _ (sliced_keeps (λ piece. varied average variation (draws lane (1 + piece))) micros
      (λ piece. varied-positive average variation (draws lane (1 + piece)) fits))) items 0 0 0 0 0 0 (omega arith) tt stream;
  final = λ draws. slicing_final (λ piece. varied average variation (draws lane (1 + piece))) (λ piece. varied average variation 0) micros;
}
