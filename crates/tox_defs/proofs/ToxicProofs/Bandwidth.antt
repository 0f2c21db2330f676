-- bandwidth: it keeps streams and bytes, what a look finds, and its law.
use Rattle.std.proofs.Common.{◌≡◌, ℕ, zero, suc, ◌+◌, ◌-◌, ◌*◌, ◌<◌, ◌≤◌, max, true, false, List, [], ◌∷◌, ◌++◌, refl, arith, inl, min, ap, length, replicate}
use Rattle.std.proofs.Common.{append_assoc, mul_comm, add-zero}
use Rattle.std.specs.Prelude.{slice_index}
use Rattle.std.specs.Int.{div_ceil}
use Rattle.std.proofs.lemmas.Grind.{div_ceil_times}
use Rattle.std.proofs.Math.Nat.{lt_of_mul-lt-mul_left}
use Rattle.tox_time.specs.declared.streams.item.Item.{Item}
use Rattle.tox_time.specs.declared.streams.item.Item.TheVariants.{Chunk, Closed, Reset, Quiet}
use Rattle.tox_time.specs.Time.{horizon, plus}
use Rattle.tox_time.specs.streams.Stream.{span_len, latest_from, is_final, IsStreamFrom, arrived}
use Rattle.tox_time.specs.streams.Table.{table, ending, final_of}
use Rattle.tox_time.proofs.StreamLemmas.{table-append}
use Rattle.tox_time.specs.declared.streams.slice.Slice.{Slice}
use Rattle.tox_defs.specs.stage.Reaction.{counted, flow_from, chunk_count}
use Rattle.tox_defs.specs.toxics.Bandwidth.{pace_gives, first_instant}
use Rattle.tox_defs.specs.toxics.Pieces.{cut, leave, first_span}
use Rattle.tox_defs.proofs.OpenStates.{open_state, has_final-leave}
use Rattle.tox_defs.proofs.FlowLemmas.{flow_from-last}
use Rattle.tox_defs.proofs.KeepingStreams.{counted_follows, CanFollow, KeepsStreams, IsStreamFrom-flow}
use Rattle.tox_defs.specs.declared.operations.state.State.{State}
use Rattle.tox_defs.specs.declared.operations.look.Look.TheVariants.{Piece}
use Rattle.tox_defs.specs.operations.Look.{Finds}
use Rattle.tox_defs.proofs.Cutting.{Cuts, cut_found, cut-same_size}
use Rattle.tox_defs.proofs.StreamKeepers.{Whatever, in_order_final, leave_goes_on}
use Rattle.tox_defs.proofs.PassedBytes.{PassesAtMost, arrived-leave}
use Rattle.tox_defs.specs.declared.toxic.Toxic.TheVariants.{Bandwidth}
use Rattle.tox_defs.specs.Laws.{HasLaw}
use Rattle.tox_defs.specs.toxics.Ranges.{is_in, one_to_million}
use Rattle.tox_defs.specs.Toxic.{IsInRange, is_within}
use Rattle.tox_defs.proofs.InRange.{both_tests, in_bounds}
use Rattle.tox_defs.proofs.Windows.{during-passes, during_keeps}
use Rattle.tox_defs.proofs.ToxicFacts.{ToxicFacts}
use Rattle.tox_defs.proofs.Within.{GivesWithin, leave_within}
use Rattle.std.proofs.lemmas.Bool.{and_parts}
use Rattle.std.proofs.lemmas.Grind.{common_steps}
use Rattle.tox_time.specs.declared.streams.ending.Ending.{Ending}
use Rattle.tox_time.specs.declared.streams.ending.Ending.TheVariants.{StillOpen, Closed as ClosedAt, Reset as ResetAt}
use Rattle.tox_defs.proofs.OpFacts.{OpFacts}
use Rattle.tox_defs.specs.declared.operations.op.Op.TheVariants.{Pace}

paced_final : (rate previous chunks pieces passed : ℕ) (item : Item) (position since : ℕ) → previous ≤ horizon → is_final item ≡ true
    → CanFollow position since item → IsStreamFrom position previous (pace_gives rate (open_state previous chunks pieces passed) item)
paced_final rate previous chunks pieces passed (Chunk span t) position since fits final follows = absurd (cc)
paced_final rate previous chunks pieces passed (Closed t) position since fits final follows =
    in_order_final previous position since (Closed t) fits final follows
paced_final rate previous chunks pieces passed (Reset t) position since fits final follows = in_order_final previous position since (Reset t) fits final follows
paced_final rate previous chunks pieces passed Quiet position since fits final follows = refl

pub paced_keeps : (rate : ℕ) → 0 < rate → KeepsStreams Whatever (counted (pace_gives rate))
paced_keeps rate positive = record {
  at_chunk = λ previous chunks pieces passed span t since fits related some late instant.
      inl (leave_goes_on (λ _. 100 * rate) (λ len. div_ceil (1000 * len) rate) (λ n. omega (arith, positive)) 0 previous t span fits some instant);
  at_final = λ previous chunks pieces passed item position since fits related final follows.
      paced_final rate previous chunks pieces passed item position since fits final follows;
  follows = counted_follows (pace_gives rate);
}

pub paced-passes : (rate : ℕ) → PassesAtMost (counted (pace_gives rate))
paced-passes rate state (Chunk span t) = omega (
  arith,
  arrived-leave (λ _. 100 * rate) (λ len. div_ceil (1000 * len) rate) 0 span.start (span_len span)
      (span_len span) state.previous t,
)
paced-passes rate state (Closed t) = omega arith
paced-passes rate state (Reset t) = omega arith
paced-passes rate state Quiet = omega arith

pub paced-cuts : (rate : ℕ) → Cuts (pace_gives rate) (λ _. 100 * rate) (λ len. div_ceil (1000 * len) rate)
paced-cuts rate state span t =
    ap (λ spans. leave (λ len. div_ceil (1000 * len) rate) state.previous t spans)
    (cut-same_size (100 * rate) 0 state.pieces span.start (span_len span) (span_len span))

-- what comes first of a chunk that a pace cuts
pub pace_found : (rate : ℕ) (state : State) (rest piece : Slice) (items : List Item) → 0 < rate
    → state.done ≡ false → rest.span.start < rest.span.stop
    → piece ≡ record {
      span = first_span (100 * rate) rest.span;
      instant =
          plus (max state.previous rest.instant) (div_ceil (1000 * span_len (first_span (100 * rate) rest.span)) rate);
    }
    → Finds (counted (pace_gives rate)) state rest items (Piece piece)
pace_found rate state rest piece items positive running nonempty found =
    cut_found (pace_gives rate) (λ _. 100 * rate) (λ len. div_ceil (1000 * len) rate) (λ _. omega (arith, positive)) (paced-cuts rate) state rest piece items
    running nonempty found

-- a product below another, by the other factor
below_by : (d m n : ℕ) → m * d < n * d → m < n
below_by d m n less = lt_of_mul-lt-mul_left d (rw (mul_comm d m, mul_comm d n) less)

-- `div_ceil` of a sum, and of a greater number
div_ceil-add : (x y d : ℕ) → 0 < d → div_ceil (x + y) d ≤ div_ceil x d + div_ceil y d
div_ceil-add x y d positive =
    let sum = div_ceil_times (x + y) d positive in
    let left = div_ceil_times x d positive in
    let right = div_ceil_times y d positive in
    let spread : (div_ceil x d + div_ceil y d + 1) * d ≡ div_ceil x d * d + div_ceil y d * d + d = grind arith in
    let below : div_ceil (x + y) d < div_ceil x d + div_ceil y d + 1 = below_by d (div_ceil (x + y) d) (div_ceil x d + div_ceil y d + 1)
    (omega (arith, sum.1, left.0, right.0, spread)) in
    omega (arith, below)

div_ceil-le : (x y d : ℕ) → 0 < d → x ≤ y → div_ceil x d ≤ div_ceil y d
div_ceil-le x y d positive order =
    let left = div_ceil_times x d positive in
    let right = div_ceil_times y d positive in
    let spread : (div_ceil y d + 1) * d ≡ div_ceil y d * d + d = grind arith in
    let below : div_ceil x d < div_ceil y d + 1 = below_by d (div_ceil x d) (div_ceil y d + 1) (omega (arith, left.1, right.0, spread)) in
    omega (arith, below)

-- when the first n bytes may have left
abbrev due : ℕ → ℕ → ℕ → ℕ
due rate first n = plus first (div_ceil (1000 * n) rate)

-- no byte leaves before it is due, from byte n on
abbrev AreDue : ℕ → ℕ → ℕ → List ℕ → Type 0
AreDue rate first n [] = Unit {0}
AreDue rate first n (t ∷ ts) = (due rate first (n + 1) ≤ t) × AreDue rate first (n + 1) ts

due-le : (rate first m n : ℕ) → 0 < rate → m ≤ n → due rate first m ≤ due rate first n
due-le rate first m n positive order =
    let more = div_ceil-le (1000 * m) (1000 * n) rate positive (omega arith) in omega (arith, more)

AreDue-replicate : (rate first n count at : ℕ) (ts : List ℕ) → 0 < rate → due rate first (n + count) ≤ at → AreDue rate first (n + count) ts
    → AreDue rate first n (replicate count at ++ ts)
AreDue-replicate rate first n zero at ts positive late others = rw (add-zero n) at others
AreDue-replicate rate first n (suc count) at ts positive late others =
    let next : n + suc count ≡ n + 1 + count = omega arith in
    let early = due-le rate first (n + 1) (n + suc count) positive (omega arith) in
    (omega (arith, early, late), AreDue-replicate rate first (n + 1) count at ts positive (rw next at late) (rw next at others))

-- a piece leaves when its last byte is due, or later
piece_due : (rate first n len start_at : ℕ) → 0 < rate → due rate first n ≤ start_at → due rate first (n + len) ≤ plus start_at (div_ceil (1000 * len) rate)
piece_due rate first n len start_at positive before =
    let parts : 1000 * (n + len) ≡ 1000 * n + 1000 * len = omega arith in
    let more = div_ceil-add (1000 * n) (1000 * len) rate positive in
    rw parts (omega (arith, more, before))

-- the pieces of an arrival, before what is due after them
leave_due : (rate first size number start left fuel since t n : ℕ) (ts : List ℕ) → 0 < rate → 0 < size → left ≤ fuel → due rate first n ≤ max since t
    → AreDue rate first (n + left) ts → AreDue rate first n (table (leave (λ len. div_ceil (1000 * len) rate) since t (cut (λ _. size) number start left fuel))
    ++ ts)
leave_due rate first size number start zero fuel since t n ts positive some enough before others = rw (add-zero n) at others
leave_due rate first size number start (suc left) zero since t n ts positive some enough before others = absurd (omega (arith, enough))
leave_due rate first size number start (suc left) (suc fuel) since t n ts positive some enough before others =
    let width : start + min size (suc left) - start ≡ min size (suc left) = omega arith in
    let rest : n + suc left ≡ n + min size (suc left) + (suc left - size) = omega arith in
    let late = piece_due rate first n (min size (suc left)) (max since t) positive before in
    rw width
    (rw (append_assoc (replicate (min size (suc left)) (plus (max since t) (div_ceil (1000 * min size (suc left)) rate))))
    (AreDue-replicate rate first n (min size (suc left)) (plus (max since t) (div_ceil (1000 * min size (suc left)) rate)) _ positive late
    (leave_due rate first size (number + 1) (start + min size (suc left)) (suc left - size) fuel
    (plus (max since t) (div_ceil (1000 * min size (suc left)) rate)) t (n + min size (suc left)) ts positive some (omega (arith, enough, some))
    (omega (arith, late)) (rw rest at others))))

-- the last piece of an arrival leaves when its last byte is due, or later
leave_latest : (rate first size number start left fuel since t n : ℕ) → 0 < rate → 0 < size → left ≤ fuel → due rate first n ≤ max since t
    → due rate first (n + left) ≤ max (latest_from since (leave (λ len. div_ceil (1000 * len) rate) since t (cut (λ _. size) number start left fuel))) t
leave_latest rate first size number start zero fuel since t n positive some enough before = rw (add-zero n) before
leave_latest rate first size number start (suc left) zero since t n positive some enough before = absurd (omega (arith, enough))
leave_latest rate first size number start (suc left) (suc fuel) since t n positive some enough before =
    let width : start + min size (suc left) - start ≡ min size (suc left) = omega arith in
    let rest : n + suc left ≡ n + min size (suc left) + (suc left - size) = omega arith in
    let late = piece_due rate first n (min size (suc left)) (max since t) positive before in
    rw (width, rest)
    (leave_latest rate first size (number + 1) (start + min size (suc left)) (suc left - size) fuel
    (plus (max since t) (div_ceil (1000 * min size (suc left)) rate)) t (n + min size (suc left)) positive some (omega (arith, enough, some))
    (omega (arith, late)))

AreDue-nil : (rate first n : ℕ) (ts : List ℕ) → ts ≡ [] → AreDue rate first n ts
AreDue-nil rate first n ts none = rw none tt

table-last : (rate previous chunks pieces passed : ℕ) (item : Item) (items : List Item) → items ≡ [] → table (item ∷ []) ≡ [] → is_final item ≡ true
    → table (flow_from (counted (pace_gives rate)) (open_state previous chunks pieces passed) (item ∷ items)) ≡ []
table-last rate previous chunks pieces passed (Chunk span t) items none bare final = absurd (cc)
table-last rate previous chunks pieces passed (Closed t) items none bare final =
    ap table (flow_from-last (counted (pace_gives rate)) (open_state previous chunks pieces passed) (Closed t) items none)
table-last rate previous chunks pieces passed (Reset t) items none bare final =
    ap table (flow_from-last (counted (pace_gives rate)) (open_state previous chunks pieces passed) (Reset t) items none)
table-last rate previous chunks pieces passed Quiet items none bare final =
    ap table (flow_from-last (counted (pace_gives rate)) (open_state previous chunks pieces passed) Quiet items none)

-- every byte of a bandwidth's flow leaves when it is due, or later
pub AreDue-flow : (rate first : ℕ) (items : List Item) (previous chunks pieces passed position since n : ℕ) → 0 < rate → due rate first n ≤ max previous since
    → IsStreamFrom position since items → AreDue rate first n (table (flow_from (counted (pace_gives rate)) (open_state previous chunks pieces passed) items))
AreDue-flow rate first [] previous chunks pieces passed position since n positive before stream = tt
AreDue-flow rate first (Chunk span t ∷ items) previous chunks pieces passed position since n positive before stream =
    let size : 0 < 100 * rate = omega arith in
    let ready : due rate first n ≤ max previous t = omega (arith, before, stream.2) in
    let given : List Item = leave (λ len. div_ceil (1000 * len) rate) previous t (cut (λ _. 100 * rate) 0 span.start (span_len span) (span_len span)) in
    rw (has_final-leave (λ len. div_ceil (1000 * len) rate) previous t (cut (λ _. 100 * rate) 0 span.start (span_len span) (span_len span)))
    (rw (table-append given (flow_from (counted (pace_gives rate)) (open_state (latest_from previous given) (chunks + 1) (pieces + chunk_count given)
    (passed + arrived given)) items))
    (leave_due rate first (100 * rate) 0 span.start (span_len span) (span_len span) previous t n _ positive size (omega arith) ready
    (AreDue-flow rate first items (latest_from previous given) (chunks + 1) (pieces + chunk_count given) (passed + arrived given) span.stop t
    (n + span_len span) positive
    (leave_latest rate first (100 * rate) 0 span.start (span_len span) (span_len span) previous t n positive size (omega arith) ready) stream.4)))
AreDue-flow rate first (Closed t ∷ items) previous chunks pieces passed position since n positive before stream =
    AreDue-nil rate first n _ (table-last rate previous chunks pieces passed (Closed t) items stream.2 refl refl)
AreDue-flow rate first (Reset t ∷ items) previous chunks pieces passed position since n positive before stream =
    AreDue-nil rate first n _ (table-last rate previous chunks pieces passed (Reset t) items stream.2 refl refl)
AreDue-flow rate first (Quiet ∷ items) previous chunks pieces passed position since n positive before stream =
    AreDue-nil rate first n _ (table-last rate previous chunks pieces passed Quiet items stream refl refl)

-- the n-th byte, by its number
pub AreDue-at : (rate first start : ℕ) (ts : List ℕ) (n : ℕ) → AreDue rate first start ts → n < length ts → due rate first (start + n + 1) ≤ slice_index ts n
AreDue-at rate first start [] n late within = absurd (omega (arith, within))
AreDue-at rate first start (t ∷ ts) zero late within = let same : start + 0 + 1 ≡ start + 1 = omega arith in rw same late.0
AreDue-at rate first start (t ∷ ts) (suc n) late within =
    let same : start + suc n + 1 ≡ start + 1 + n + 1 = omega arith in rw same (AreDue-at rate first (start + 1) ts n late.1 (omega (arith, within)))

-- at first nothing is due
due-zero : (rate first : ℕ) → 0 < rate → due rate first 0 ≤ first
due-zero rate first positive =
    let none : div_ceil (1000 * 0) rate < 1 = below_by rate (div_ceil (1000 * 0) rate) 1 (omega (arith, div_ceil_times 0 rate positive)) in omega (arith, none)

IsStreamFrom-first : (items : List Item) (position : ℕ) → IsStreamFrom position 0 items → IsStreamFrom position (first_instant items) items
IsStreamFrom-first [] position stream = stream
IsStreamFrom-first (Chunk span t ∷ items) position stream = (stream.0, stream.1, omega arith, stream.3, stream.4)
IsStreamFrom-first (Closed t ∷ items) position stream = stream
IsStreamFrom-first (Reset t ∷ items) position stream = stream
IsStreamFrom-first (Quiet ∷ items) position stream = stream

-- the manual's law of bandwidth
pub bandwidth_law : (rate : ℕ) (items : List Item) (n : ℕ) → 0 < rate → IsStreamFrom 0 0 items
    → n < length (table (flow_from (counted (pace_gives rate)) (open_state 0 0 0 0) items))
    → due rate (first_instant items) (n + 1) ≤ slice_index (table (flow_from (counted (pace_gives rate)) (open_state 0 0 0 0) items)) n
bandwidth_law rate items n positive stream within =
    let zero_due = due-zero rate (first_instant items) positive in
    let same : 0 + n + 1 ≡ n + 1 = omega arith in
    rw same at (AreDue-at rate (first_instant items) 0 _ n (AreDue-flow rate (first_instant items) items 0 0 0 0 0 (first_instant items) 0 positive
    (omega (arith, zero_due)) (IsStreamFrom-first items 0 stream)) within)

bandwidth_within : (rate : ℕ) → GivesWithin (pace_gives rate)
bandwidth_within rate state (Chunk span t) items =
    leave_within (λ _. 100 * rate) (λ len. div_ceil (1000 * len) rate) 0 span.start (span_len span) (span_len span) state.previous t span t items (omega arith)
    (λ some. omega arith)
bandwidth_within rate state (Closed t) items = tt
bandwidth_within rate state (Reset t) items = tt
bandwidth_within rate state Quiet items = tt

rate-positive : (rate until from : ℕ) → IsInRange (Bandwidth rate until from) → 0 < rate
rate-positive rate until from fits =
    let within = both_tests (is_within (Bandwidth rate until from)) false fits in
    (in_bounds one_to_million rate (and_parts (is_in one_to_million rate) _ within.0).0).0

bandwidth_has_law : (rate until from : ℕ) → 0 < rate → HasLaw (Bandwidth rate until from)
bandwidth_has_law rate zero zero positive start never words items list = λ n before. bandwidth_law rate items n positive list.0 before
bandwidth_has_law rate zero (suc from) positive start never words items list = absurd (cc)
bandwidth_has_law rate (suc until) from positive start never words items list = absurd (cc)

pub bandwidth_facts : (rate until from : ℕ) → ToxicFacts (Bandwidth rate until from)
bandwidth_facts rate until from = record {
  reacts = λ place draws. refl;
  is_op = λ place. rate-positive rate until from;
  delays = λ place fits. omega arith;
  passes = λ words. during-passes from until _ (paced-passes rate);
  within = λ words. bandwidth_within rate;
  law = λ fits. bandwidth_has_law rate until from (rate-positive rate until from fits);
  spelled = record { word = refl; named = refl; words = refl; known = refl; apart = refl; keys = refl; made = refl };
  short = λ inside. grind (arith, common_steps);
}

pace_final : (rate : ℕ) (state : State) (end : Ending) → pace_gives rate state (final_of end) ≡ final_of (ending (pace_gives rate state (final_of end))) ∷ []
pace_final rate state StillOpen = refl
pace_final rate state (ClosedAt t) = refl
pace_final rate state (ResetAt t) = refl

pub pace_facts : (rate until from : ℕ) → OpFacts (Pace rate until from)
pace_facts rate until from = record {
  streams = λ draws items fits stream. IsStreamFrom-flow Whatever _ (during_keeps from until _ (paced_keeps rate fits)) items 0 0 0 0 0 0 (omega arith) tt
      stream;
  final = λ draws. pace_final rate;
}
