-- Cutoffs: two give the earlier.
use Rattle.std.proofs.Common.{◌≡◌, ℕ, ◌+◌, ◌≤◌, min, Bool, true, false, List, [], ◌∷◌, refl, arith, ap, sym, ◌∙◌}
use Rattle.std.specs.Prelude.{nat_lt}
use Rattle.std.proofs.lemmas.Bool.{ltb-true, ltb-false, lt-ltb, le-ltb}
use Rattle.tox_time.specs.declared.streams.item.Item.{Item}
use Rattle.tox_time.specs.declared.streams.item.Item.TheVariants.{Chunk, Closed, Reset, Quiet}
use Rattle.tox_time.specs.streams.Stream.{span_len, IsStreamFrom}
use Rattle.tox_defs.specs.declared.operations.state.State.{State}
use Rattle.tox_defs.specs.stage.Reaction.{state_after, counted, flow_from}
use Rattle.tox_defs.specs.toxics.Halt.{is_before}
use Rattle.tox_defs.specs.toxics.ResetPeer.{cutoff_gives}
use Rattle.tox_defs.proofs.FlowLemmas.{flow_from-done}
use Rattle.tox_defs.proofs.OpenStates.{open_state}

-- what is before the earlier of two cutoffs
is_before-min : (first second : ℕ) (item : Item) → is_before first item ≡ true → is_before second item ≡ true → is_before (min first second) item ≡ true
is_before-min first second (Chunk span t) e1 e2 = let less1 = ltb-true t first e1 in let less2 = ltb-true t second e2 in
    lt-ltb t (min first second) (omega (arith, less1, less2))
is_before-min first second (Closed t) e1 e2 = let less1 = ltb-true t first e1 in let less2 = ltb-true t second e2 in
    lt-ltb t (min first second) (omega (arith, less1, less2))
is_before-min first second (Reset t) e1 e2 = let less1 = ltb-true t first e1 in let less2 = ltb-true t second e2 in
    lt-ltb t (min first second) (omega (arith, less1, less2))
is_before-min first second Quiet e1 e2 = e1

not_before : (earlier later : ℕ) (item : Item) → earlier ≤ later → is_before later item ≡ false → is_before earlier item ≡ false
not_before earlier later (Chunk span t) order e = let more = ltb-false t later e in le-ltb t earlier (omega (arith, more, order))
not_before earlier later (Closed t) order e = let more = ltb-false t later e in le-ltb t earlier (omega (arith, more, order))
not_before earlier later (Reset t) order e = let more = ltb-false t later e in le-ltb t earlier (omega (arith, more, order))
not_before earlier later Quiet order e = refl

-- the second cutoff is the earlier one where it alone cuts
second_earlier : (first second : ℕ) (item : Item) → is_before first item ≡ true → is_before second item ≡ false → second ≤ first
second_earlier first second (Chunk span t) e1 e2 = let less = ltb-true t first e1 in let more = ltb-false t second e2 in omega (arith, less, more)
second_earlier first second (Closed t) e1 e2 = let less = ltb-true t first e1 in let more = ltb-false t second e2 in omega (arith, less, more)
second_earlier first second (Reset t) e1 e2 = let less = ltb-true t first e1 in let more = ltb-false t second e2 in omega (arith, less, more)
second_earlier first second Quiet e1 e2 = absurd (cc)

cut_reset : (first second p c n b : ℕ) (e : Bool) → nat_lt first second ≡ e
    → flow_from (counted (cutoff_gives second)) (open_state p c n b) (Reset first ∷ []) ≡ Reset (min first second) ∷ []
cut_reset first second p c n b true e =
    let less = ltb-true first second e in
    let same : first ≡ min first second = omega (arith, less) in rw e (ap (λ at. Reset at ∷ []) same)
cut_reset first second p c n b false e =
    let more = ltb-false first second e in
    let same : second ≡ min first second = omega (arith, more) in rw e (ap (λ at. Reset at ∷ []) same)

-- an item that a cutoff lets pass, and one that it cuts
cut_passes : (instant : ℕ) (item : Item) (items : List Item) (p c n b : ℕ) → is_before instant item ≡ true
    → flow_from (counted (cutoff_gives instant)) (open_state p c n b) (item ∷ items)
    ≡ item ∷ flow_from (counted (cutoff_gives instant)) (state_after (open_state p c n b) item (item ∷ [])) items
cut_passes instant item items p c n b e = rw e refl

cut_ends : (instant : ℕ) (item : Item) (items : List Item) (p c n b : ℕ) → is_before instant item ≡ false
    → flow_from (counted (cutoff_gives instant)) (open_state p c n b) (item ∷ items) ≡ Reset instant ∷ []
cut_ends instant item items p c n b e =
    let state : State = state_after (open_state p c n b) item (Reset instant ∷ []) in
    rw e (rw (flow_from-done (counted (cutoff_gives instant)) state items refl) refl)

-- an item at two cutoffs, by whether each cuts it
cut_item : (first second : ℕ) (item : Item) (items : List Item) (p1 c1 n1 b1 p2 c2 n2 b2 p c n b : ℕ) (e1 e2 : Bool) → is_before first item ≡ e1
    → is_before second item ≡ e2
    → flow_from (counted (cutoff_gives second)) (state_after (open_state p2 c2 n2 b2) item (item ∷ []))
    (flow_from (counted (cutoff_gives first)) (state_after (open_state p1 c1 n1 b1) item (item ∷ [])) items)
    ≡ flow_from (counted (cutoff_gives (min first second))) (state_after (open_state p c n b) item (item ∷ [])) items
    → flow_from (counted (cutoff_gives second)) (open_state p2 c2 n2 b2) (flow_from (counted (cutoff_gives first)) (open_state p1 c1 n1 b1) (item ∷ items))
    ≡ flow_from (counted (cutoff_gives (min first second))) (open_state p c n b) (item ∷ items)
cut_item first second item items p1 c1 n1 b1 p2 c2 n2 b2 p c n b true true t1 t2 others =
    ap (λ rest. flow_from (counted (cutoff_gives second)) (open_state p2 c2 n2 b2) rest) (cut_passes first item items p1 c1 n1 b1 t1)
    ∙ cut_passes second item _ p2 c2 n2 b2 t2
    ∙ ap (λ rest. item ∷ rest) others
    ∙ sym (cut_passes (min first second) item items p c n b (is_before-min first second item t1 t2))
cut_item first second item items p1 c1 n1 b1 p2 c2 n2 b2 p c n b true false t1 t2 others =
    let order = second_earlier first second item t1 t2 in
    let same : second ≡ min first second = omega (arith, order) in
    ap (λ rest. flow_from (counted (cutoff_gives second)) (open_state p2 c2 n2 b2) rest) (cut_passes first item items p1 c1 n1 b1 t1)
    ∙ cut_ends second item _ p2 c2 n2 b2 t2
    ∙ ap (λ at. Reset at ∷ []) same
    ∙ sym (cut_ends (min first second) item items p c n b (not_before (min first second) second item (omega arith) t2))
cut_item first second item items p1 c1 n1 b1 p2 c2 n2 b2 p c n b false e2 t1 t2 others =
    ap (λ rest. flow_from (counted (cutoff_gives second)) (open_state p2 c2 n2 b2) rest) (cut_ends first item items p1 c1 n1 b1 t1)
    ∙ cut_reset first second p2 c2 n2 b2 (nat_lt first second) refl
    ∙ sym (cut_ends (min first second) item items p c n b (not_before (min first second) first item (omega arith) t1))

-- two cutoffs
pub cutoffs_join : (first second : ℕ) (items : List Item) (p1 c1 n1 b1 p2 c2 n2 b2 p c n b position since : ℕ) → IsStreamFrom position since items
    → flow_from (counted (cutoff_gives second)) (open_state p2 c2 n2 b2) (flow_from (counted (cutoff_gives first)) (open_state p1 c1 n1 b1) items)
    ≡ flow_from (counted (cutoff_gives (min first second))) (open_state p c n b) items
cutoffs_join first second [] p1 c1 n1 b1 p2 c2 n2 b2 p c n b position since stream = refl
cutoffs_join first second (Chunk span t ∷ items) p1 c1 n1 b1 p2 c2 n2 b2 p c n b position since stream =
    cut_item first second (Chunk span t) items p1 c1 n1 b1 p2 c2 n2 b2 p c n b (is_before first (Chunk span t)) (is_before second (Chunk span t)) refl refl
    (cutoffs_join first second items t (c1 + 1) (n1 + 1) (b1 + (span_len span + 0)) t (c2 + 1) (n2 + 1) (b2 + (span_len span + 0)) t (c + 1) (n + 1)
    (b + (span_len span + 0)) span.stop t stream.4)
cutoffs_join first second (Closed t ∷ items) p1 c1 n1 b1 p2 c2 n2 b2 p c n b position since stream =
    rw stream.2 (cut_item first second (Closed t) [] p1 c1 n1 b1 p2 c2 n2 b2 p c n b (is_before first (Closed t)) (is_before second (Closed t)) refl refl refl)
cutoffs_join first second (Reset t ∷ items) p1 c1 n1 b1 p2 c2 n2 b2 p c n b position since stream =
    rw stream.2 (cut_item first second (Reset t) [] p1 c1 n1 b1 p2 c2 n2 b2 p c n b (is_before first (Reset t)) (is_before second (Reset t)) refl refl refl)
cutoffs_join first second (Quiet ∷ items) p1 c1 n1 b1 p2 c2 n2 b2 p c n b position since stream =
    rw stream (cut_item first second Quiet [] p1 c1 n1 b1 p2 c2 n2 b2 p c n b false false refl refl refl)
