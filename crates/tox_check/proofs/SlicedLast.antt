-- A slicer without delay that is the last of its stream moves no byte: its pieces leave when their chunk came.
use Rattle.std.proofs.Common.{◌≡◌, ℕ, zero, suc, ◌+◌, ◌-◌, ◌<◌, ◌≤◌, min, max, Bool, true, false, List, [], ◌∷◌, ◌++◌, length, replicate, Some, append_assoc}
use Rattle.std.proofs.Common.{arith, refl, ap, ap₂, sym, ◌∙◌, subst, if◌then◌else◌}
use Rattle.std.specs.Prelude.{All, nat_le}
use Rattle.std.specs.List.{slice_get}
use Rattle.std.proofs.lemmas.Bool.{and_parts, eqb-true, leb-false, leb-true}
use Rattle.std.proofs.lemmas.List.{replicate-append-replicate}
use Rattle.std.proofs.lemmas.List.Elements.{All-head, All-tail}
use Rattle.tox_time.specs.declared.streams.span.Span.{Span}
use Rattle.tox_time.specs.declared.streams.item.Item.{Item}
use Rattle.tox_time.specs.declared.streams.item.Item.TheVariants.{Chunk, Closed, Reset, Quiet}
use Rattle.tox_time.specs.declared.streams.ending.Ending.TheVariants.{StillOpen, Closed as ClosedAt, Reset as ResetAt}
use Rattle.tox_time.specs.Time.{IsInstant, plus}
use Rattle.tox_time.specs.streams.Stream.{IsStream, IsStreamFrom, arrived, has_final, latest_from, span_len}
use Rattle.tox_time.specs.streams.Table.{SameResult, ending, table}
use Rattle.tox_defs.specs.declared.toxic.Toxic.{Toxic}
use Rattle.tox_defs.specs.declared.toxic.Toxic.TheVariants.{Latency, Bandwidth, SlowClose, Timeout, ResetPeer, Slicer, LimitData}
use Rattle.tox_words.specs.Draw.{Draws}
use Rattle.tox_defs.specs.declared.chain.Entry.{Entry}
use Rattle.tox_defs.specs.declared.operations.state.State.{State}
use Rattle.tox_defs.specs.chain.Applied.{is_applied}
use Rattle.tox_defs.specs.chain.Chain.{Toxics, IsChain, IsEntry}
use Rattle.tox_defs.specs.Flow.{chain_draws, toxic_effect}
use Rattle.tox_defs.specs.stage.Reaction.{Reaction, chunk_count, counted, flow_from}
use Rattle.tox_defs.specs.operations.During.{during, is_outside, uncounted_answer}
use Rattle.tox_defs.specs.toxics.Pieces.{cut, leave, pieces_of}
use Rattle.tox_defs.specs.toxics.Slicer.{slicing_gives}
use Rattle.tox_defs.specs.toxics.Varied.{varied}
use Rattle.tox_defs.specs.Toxic.{IsInRange, is_within}
use Rattle.tox_defs.specs.Laws.{toxic_flow}
use Rattle.tox_defs.proofs.Drawn.{varied-positive}
use Rattle.tox_defs.proofs.InRange.{both_tests}
use Rattle.tox_defs.proofs.OpenStates.{has_final-leave, open_state}
use Rattle.tox_check.proofs.FinalsKept.{final-kept, slicing-orders}
use Rattle.tox_check.proofs.Through.{through, through-cons, through-silenced, through_one, through_one-stream}
use Rattle.tox_check.specs.Idle.{ChangesNothing, cuts_last, silenced}

-- the pieces of a chunk, without a wait
abbrev leaving : (ℕ → ℕ) → ℕ → ℕ → ℕ → ℕ → ℕ → ℕ → List Item
leaving size number start left fuel since t = leave (λ _. 0) since t (cut size number start left fuel)

-- each byte leaves when the chunk came
table-leaving : (size : ℕ → ℕ) → ((n : ℕ) → 0 < size n) → (number start left fuel since t : ℕ) (rest : List Item) → left ≤ fuel → since ≤ t → IsInstant t
    → table (leaving size number start left fuel since t ++ rest) ≡ replicate left t ++ table rest
table-leaving size some number start zero fuel since t rest enough before instant = refl
table-leaving size some number start (suc left) zero since t rest enough before instant = absurd (omega (arith, enough))
table-leaving size some number start (suc left) (suc fuel) since t rest enough before instant =
    let positive : 0 < size number = some number in
    let m = min (size number) (suc left) in
    let others = suc left - size number in
    let now : plus (max since t) 0 ≡ t = omega (arith, before, instant) in
    let len : (start + m) - start ≡ m = omega arith in
    let sum : m + others ≡ suc left = omega arith in
    let later = table-leaving size some (number + 1) (start + m) others fuel (plus (max since t) 0) t rest (omega (arith, enough, positive))
    (omega (arith, now)) instant in
    ap₂ (λ (n at : ℕ). replicate n at ++ table (leaving size (number + 1) (start + m) others fuel (plus (max since t) 0) t ++ rest)) len now
    ∙ ap (λ (ts : List ℕ). replicate m t ++ ts) later
    ∙ sym (append_assoc (replicate m t) (replicate others t) (table rest))
    ∙ ap (λ (ts : List ℕ). ts ++ table rest) (replicate-append-replicate m others t ∙ ap (λ n. replicate n t) sum)

-- no piece ends the link
ending-leaving : (spans : List Span) (since t : ℕ) (rest : List Item) → ending (leave (λ _. 0) since t spans ++ rest) ≡ ending rest
ending-leaving [] since t rest = refl
ending-leaving (span ∷ spans) since t rest = ending-leaving spans (plus (max since t) 0) t rest

-- the last one leaves no later than the chunk came
latest-leaving : (spans : List Span) (since t p : ℕ) → since ≤ t → p ≤ t → latest_from p (leave (λ _. 0) since t spans) ≤ t
latest-leaving [] since t p before earlier = earlier
latest-leaving (span ∷ spans) since t p before earlier =
    latest-leaving spans (plus (max since t) 0) t (plus (max since t) 0) (omega (arith, before)) (omega (arith, before))

abbrev Same : Reaction → List Item → Type 0
Same reaction items = (p c n b : ℕ) (position since : ℕ) → p ≤ since → IsStreamFrom position since items
    → SameResult (flow_from reaction (open_state p c n b) items) items

-- one chunk
chunk-same : (outside : Bool) (reaction : Reaction) (size : ℕ → ℕ) → ((n : ℕ) → 0 < size n) → (span : Span) (t : ℕ) (items : List Item) (p c n b : ℕ) → p ≤ t
    → IsInstant t
    → ((q c n b : ℕ) → q ≤ t → SameResult (flow_from reaction (open_state q c n b) items) items)
    → SameResult ((if outside then uncounted_answer (open_state p c n b) (Chunk span t) else counted (slicing_gives size 0) (open_state p c n b)
    (Chunk span t)).given
    ++ flow_from reaction (if outside then uncounted_answer (open_state p c n b) (Chunk span t) else counted (slicing_gives size 0) (open_state p c n b)
    (Chunk span t)).state items) (Chunk span t ∷ items)
chunk-same true reaction size some span t items p c n b before instant others =
    let at : max p t ≡ t = omega (arith, before) in
    let later = others (max p t) c n b (omega (arith, before)) in
    record { tables = ap₂ (λ (at : ℕ) (ts : List ℕ). replicate (span_len span) at ++ ts) at later.tables; endings = later.endings }
chunk-same false reaction size some span t items p c n b before instant others =
    by (has_final (leaving size n span.start (span_len span) (span_len span) p t)) refl
  where
    given : List Item
    given = leaving size n span.start (span_len span) (span_len span) p t

    state : Bool → State
    state done = record { previous = latest_from p given; chunks = c + 1; pieces = n + chunk_count given; passed = b + arrived given; done = done }

    by : (done : Bool) → has_final given ≡ done → SameResult (given ++ flow_from reaction (state (has_final given)) items) (Chunk span t ∷ items)
    by done is = subst (λ (d : Bool). SameResult (given ++ flow_from reaction (state d) items) (Chunk span t ∷ items))
        (sym (has_final-leave (λ _. 0) p t (pieces_of size n span)))
        (let later = others (latest_from p given) (c + 1) (n + chunk_count given) (b + arrived given)
        (latest-leaving (pieces_of size n span) p t p before before) in
        record {
          tables = table-leaving size some n span.start (span_len span) (span_len span) p t _ (omega arith) before instant
              ∙ ap (λ (ts : List ℕ). replicate (span_len span) t ++ ts) later.tables;
          endings = ending-leaving (pieces_of size n span) p t _ ∙ later.endings;
        })

-- a slicing without a wait, whatever its time
sliced : (size : ℕ → ℕ) → ((n : ℕ) → 0 < size n) → (from until : ℕ) (items : List Item) → Same (during from until (counted (slicing_gives size 0))) items
sliced size some from until [] p c n b position since before stream = absurd stream
sliced size some from until (Chunk span t ∷ items) p c n b position since before stream =
    chunk-same (is_outside from until (Chunk span t)) (during from until (counted (slicing_gives size 0))) size some span t items p c n b
    (omega (arith, before, stream.2)) stream.3
    (λ q c n b early. sliced size some from until items q c n b span.stop t early stream.4)
sliced size some from until (Closed t ∷ items) p c n b position since before stream =
    let same : max p t ≡ t = omega (arith, before, stream.0) in
    let kept = final-kept from until (slicing_gives size 0) (ClosedAt t) p c n b (slicing-orders size 0) (ap (λ (at : ℕ). Closed at) same) in
    rw stream.2 (record { tables = ap table kept; endings = ap ending kept })
sliced size some from until (Reset t ∷ items) p c n b position since before stream =
    let same : max p t ≡ t = omega (arith, before, stream.0) in
    let kept = final-kept from until (slicing_gives size 0) (ResetAt t) p c n b (slicing-orders size 0) (ap (λ (at : ℕ). Reset at) same) in
    rw stream.2 (record { tables = ap table kept; endings = ap ending kept })
sliced size some from until (Quiet ∷ items) p c n b position since before stream =
    let kept = final-kept from until (slicing_gives size 0) StillOpen p c n b (slicing-orders size 0) refl in
    rw stream (record { tables = ap table kept; endings = ap ending kept })

-- a slicer without delay keeps the table and the ending of each stream
pub slicer-same : (average variation until from : ℕ) (words : ℕ → ℕ) (items : List Item) → IsInRange (Slicer average variation 0 until from) → IsStream items
    → SameResult (toxic_flow (Slicer average variation 0 until from) words items) items
slicer-same average variation until from words items fits stream =
    let within = both_tests (is_within (Slicer average variation 0 until from)) (nat_le average variation) fits in
    let less = leb-false average variation within.1 in
    sliced (λ piece. varied average variation (words (1 + piece))) (λ piece. varied-positive average variation (words (1 + piece)) less) from until items 0 0 0
    0 0 0 (omega arith) stream

only_cuts-same : (e : Bool) (toxic : Toxic) (words : ℕ → ℕ) (items : List Item) → (toxic_effect toxic).only_cuts ≡ true → IsInRange toxic → IsStream items
    → SameResult (through_one e toxic words items) items
only_cuts-same false toxic words items cuts fits stream = record { tables = refl; endings = refl }
only_cuts-same true (Slicer average variation zero until from) words items cuts fits stream = slicer-same average variation until from words items fits stream
only_cuts-same true (Slicer average variation (suc delay) until from) words items cuts fits stream =
    let none : suc delay ≡ 0 = eqb-true (suc delay) 0 cuts in absurd (omega arith)
only_cuts-same true (Latency latency jitter until from) words items cuts fits stream = absurd (cc)
only_cuts-same true (Bandwidth rate until from) words items cuts fits stream = absurd (cc)
only_cuts-same true (SlowClose delay) words items cuts fits stream = absurd (cc)
only_cuts-same true (Timeout timeout from after) words items cuts fits stream = absurd (cc)
only_cuts-same true (ResetPeer timeout after) words items cuts fits stream = absurd (cc)
only_cuts-same true (LimitData bytes) words items cuts fits stream = absurd (cc)

-- the last entry
last-same : (draws : Draws) (place k : ℕ) (entries : List Entry) (entry : Entry) (items : List Item) → All IsEntry entries
    → (toxic_effect entry.toxic).only_cuts ≡ true
    → slice_get entries k ≡ Some entry → length entries ≤ suc k → IsStream items
    → SameResult (through draws place entries items) (through draws place (silenced k entries) items)
last-same draws place k [] entry items fit cuts found last stream = record { tables = refl; endings = refl }
last-same draws place zero (first ∷ second ∷ entries) entry items fit cuts found last stream = absurd (omega (arith, last))
last-same draws place zero (first ∷ []) entry items fit cuts found last stream =
    let same : first ≡ entry = cc in
    let cuts' : (toxic_effect first.toxic).only_cuts ≡ true = ap (λ (e : Entry). (toxic_effect e.toxic).only_cuts) same ∙ cuts in
    let unlike : through draws place (silenced 0 (first ∷ [])) items ≡ items = through-silenced draws place first [] items in
    let here = only_cuts-same (is_applied first place draws) first.toxic (draws place) items cuts' (All-head IsEntry first [] fit).0 stream in
    record {
      tables = ap table (through-cons draws place first [] items) ∙ here.tables ∙ ap table (sym unlike);
      endings = ap ending (through-cons draws place first [] items) ∙ here.endings ∙ ap ending (sym unlike);
    }
last-same draws place (suc k) (first ∷ entries) entry items fit cuts found last stream =
    let e = is_applied first place draws in
    let fits = (All-head IsEntry first entries fit).0 in
    let later = last-same draws (place + 1) k entries entry (through_one e first.toxic (draws place) items) (All-tail IsEntry first entries fit) cuts found
    (omega (arith, last)) (through_one-stream e first.toxic (draws place) items fits stream) in
    record {
      tables = ap table (through-cons draws place first entries items) ∙ later.tables
          ∙ ap table (sym (through-cons draws place first (silenced k entries) items));
      endings = ap ending (through-cons draws place first entries items) ∙ later.endings
          ∙ ap ending (sym (through-cons draws place first (silenced k entries) items));
    }

pub cuts_last-same : (chain : Toxics) (k : ℕ) (entry : Entry) → IsChain chain → slice_get chain.entries k ≡ Some entry
    → cuts_last k entry.toxic chain.entries ≡ true → ChangesNothing k chain
cuts_last-same chain k entry fits found warning_text words items stream =
    let both = and_parts (toxic_effect entry.toxic).only_cuts (nat_le (length chain.entries) (suc k)) warning_text in
    last-same (chain_draws chain words) 0 k chain.entries entry items fits.entries_fit both.0 found (leb-true (length chain.entries) (suc k) both.1) stream
