-- Limits: two give the smaller.
use Rattle.std.proofs.Common.{◌≡◌, ℕ, zero, suc, ◌+◌, ◌-◌, min, Bool, true, false, List, [], ◌∷◌, ◌++◌, refl, arith, ap, sym, ◌∙◌}
use Rattle.std.specs.Prelude.{nat_lt}
use Rattle.std.proofs.lemmas.Bool.{ltb-true, ltb-false, lt-ltb, le-ltb}
use Rattle.std.proofs.lemmas.List.{append-nil}
use Rattle.tox_time.specs.declared.streams.span.Span.{Span}
use Rattle.tox_time.specs.declared.streams.item.Item.{Item}
use Rattle.tox_time.specs.declared.streams.item.Item.TheVariants.{Chunk, Closed, Reset, Quiet}
use Rattle.tox_time.specs.streams.Stream.{span_len, IsStreamFrom}
use Rattle.tox_defs.specs.declared.operations.state.State.{State}
use Rattle.tox_defs.specs.stage.Reaction.{state_after, counted, flow_from}
use Rattle.tox_time.specs.declared.streams.ending.Ending.TheVariants.{Closed as ClosedAt}
use Rattle.tox_defs.specs.toxics.FirstBytes.{first_bytes}
use Rattle.tox_defs.specs.toxics.LimitData.{limit_gives}
use Rattle.tox_defs.proofs.FlowLemmas.{flow_from-done}
use Rattle.tox_defs.proofs.OpenStates.{open_state, has_final-first_bytes}

-- a chunk that a limit lets pass, and one that it ends at
limit_passes : (bytes : ℕ) (span : Span) (t : ℕ) (items : List Item) (p c n b : ℕ) → nat_lt (span_len span) (bytes - b) ≡ true
    → flow_from (counted (limit_gives bytes)) (open_state p c n b) (Chunk span t ∷ items)
    ≡ Chunk span t ∷ flow_from (counted (limit_gives bytes)) (open_state t (c + 1) (n + 1) (b + (span_len span + 0))) items
limit_passes bytes span t items p c n b e = rw e refl

limit_ends : (bytes : ℕ) (span : Span) (t : ℕ) (items : List Item) (p c n b : ℕ) → nat_lt (span_len span) (bytes - b) ≡ false
    → flow_from (counted (limit_gives bytes)) (open_state p c n b) (Chunk span t ∷ items) ≡ first_bytes (bytes - b) span t ++ (Closed t ∷ [])
limit_ends bytes span t items p c n b e =
    let state : State = state_after (open_state p c n b) (Chunk span t) (first_bytes (bytes - b) span t ++ (Closed t ∷ [])) in
    rw e (rw (flow_from-done (counted (limit_gives bytes)) state items (has_final-first_bytes (bytes - b) span t (ClosedAt t)))
    (append-nil (first_bytes (bytes - b) span t ++ (Closed t ∷ []))))

first_bytes-start : (n : ℕ) (span other : Span) (t : ℕ) → span.start ≡ other.start → first_bytes n span t ≡ first_bytes n other t
first_bytes-start zero span other t same = refl
first_bytes-start (suc n) span other t same = ap (λ start. Chunk (record { start = start; stop = start + suc n }) t ∷ []) same

limit_on_end_by : (bytes k : ℕ) (span : Span) (t p c n b : ℕ) (e : Bool) → nat_lt (span.start + suc k - span.start) (bytes - b) ≡ e
    → flow_from (counted (limit_gives bytes)) (open_state p c n b) (first_bytes (suc k) span t ++ (Closed t ∷ []))
    ≡ first_bytes (min (suc k) (bytes - b)) span t ++ (Closed t ∷ [])
limit_on_end_by bytes k span t p c n b true e =
    let less = ltb-true (span.start + suc k - span.start) (bytes - b) e in
    let same : suc k ≡ min (suc k) (bytes - b) = omega (arith, less) in
    limit_passes bytes (record { start = span.start; stop = span.start + suc k }) t (Closed t ∷ []) p c n b e
    ∙ ap (λ room. first_bytes room span t ++ (Closed t ∷ [])) same
limit_on_end_by bytes k span t p c n b false e =
    let more = ltb-false (span.start + suc k - span.start) (bytes - b) e in
    let same : bytes - b ≡ min (suc k) (bytes - b) = omega (arith, more) in
    limit_ends bytes (record { start = span.start; stop = span.start + suc k }) t (Closed t ∷ []) p c n b e
    ∙ ap (λ given. given ++ (Closed t ∷ [])) (first_bytes-start (bytes - b) (record { start = span.start; stop = span.start + suc k }) span t refl)
    ∙ ap (λ room. first_bytes room span t ++ (Closed t ∷ [])) same

-- a limit at what another limit ended
limit_on_end : (bytes room : ℕ) (span : Span) (t p c n b : ℕ) → flow_from (counted (limit_gives bytes)) (open_state p c n b)
    (first_bytes room span t ++ (Closed t ∷ [])) ≡ first_bytes (min room (bytes - b)) span t ++ (Closed t ∷ [])
limit_on_end bytes zero span t p c n b =
    let none : 0 ≡ min 0 (bytes - b) = omega arith in ap (λ room. first_bytes room span t ++ (Closed t ∷ [])) none
limit_on_end bytes (suc k) span t p c n b = limit_on_end_by bytes k span t p c n b (nat_lt (span.start + suc k - span.start) (bytes - b)) refl

-- two limits
limits_chunk : (first second : ℕ) (span : Span) (t : ℕ) (items : List Item) (p1 c1 n1 p2 c2 n2 p c n b : ℕ) (e1 e2 : Bool)
    → nat_lt (span_len span) (first - b) ≡ e1 → nat_lt (span_len span) (second - b) ≡ e2
    → flow_from (counted (limit_gives second)) (open_state t (c2 + 1) (n2 + 1) (b + (span_len span + 0)))
    (flow_from (counted (limit_gives first)) (open_state t (c1 + 1) (n1 + 1) (b + (span_len span + 0))) items)
    ≡ flow_from (counted (limit_gives (min first second))) (open_state t (c + 1) (n + 1) (b + (span_len span + 0))) items
    → flow_from (counted (limit_gives second)) (open_state p2 c2 n2 b) (flow_from (counted (limit_gives first)) (open_state p1 c1 n1 b) (Chunk span t ∷ items))
    ≡ flow_from (counted (limit_gives (min first second))) (open_state p c n b) (Chunk span t ∷ items)
limits_chunk first second span t items p1 c1 n1 p2 c2 n2 p c n b true true t1 t2 others =
    let less1 = ltb-true (span_len span) (first - b) t1 in
    let less2 = ltb-true (span_len span) (second - b) t2 in
    ap (λ rest. flow_from (counted (limit_gives second)) (open_state p2 c2 n2 b) rest) (limit_passes first span t items p1 c1 n1 b t1)
    ∙ limit_passes second span t _ p2 c2 n2 b t2
    ∙ ap (λ rest. Chunk span t ∷ rest) others
    ∙ sym (limit_passes (min first second) span t items p c n b (lt-ltb (span_len span) (min first second - b) (omega (arith, less1, less2))))
limits_chunk first second span t items p1 c1 n1 p2 c2 n2 p c n b true false t1 t2 others =
    let less1 = ltb-true (span_len span) (first - b) t1 in
    let more2 = ltb-false (span_len span) (second - b) t2 in
    let same : second - b ≡ min first second - b = omega (arith, less1, more2) in
    ap (λ rest. flow_from (counted (limit_gives second)) (open_state p2 c2 n2 b) rest) (limit_passes first span t items p1 c1 n1 b t1)
    ∙ limit_ends second span t _ p2 c2 n2 b t2
    ∙ ap (λ room. first_bytes room span t ++ (Closed t ∷ [])) same
    ∙ sym (limit_ends (min first second) span t items p c n b (le-ltb (span_len span) (min first second - b) (omega (arith, more2))))
limits_chunk first second span t items p1 c1 n1 p2 c2 n2 p c n b false e2 t1 t2 others =
    let more1 = ltb-false (span_len span) (first - b) t1 in
    let same : min (first - b) (second - b) ≡ min first second - b = omega arith in
    ap (λ rest. flow_from (counted (limit_gives second)) (open_state p2 c2 n2 b) rest) (limit_ends first span t items p1 c1 n1 b t1)
    ∙ limit_on_end second (first - b) span t p2 c2 n2 b
    ∙ ap (λ room. first_bytes room span t ++ (Closed t ∷ [])) same
    ∙ sym (limit_ends (min first second) span t items p c n b (le-ltb (span_len span) (min first second - b) (omega (arith, more1))))

pub limits_join : (first second : ℕ) (items : List Item) (p1 c1 n1 p2 c2 n2 p c n b position since : ℕ) → IsStreamFrom position since items
    → flow_from (counted (limit_gives second)) (open_state p2 c2 n2 b) (flow_from (counted (limit_gives first)) (open_state p1 c1 n1 b) items)
    ≡ flow_from (counted (limit_gives (min first second))) (open_state p c n b) items
limits_join first second [] p1 c1 n1 p2 c2 n2 p c n b position since stream = refl
limits_join first second (Chunk span t ∷ items) p1 c1 n1 p2 c2 n2 p c n b position since stream =
    limits_chunk first second span t items p1 c1 n1 p2 c2 n2 p c n b (nat_lt (span_len span) (first - b)) (nat_lt (span_len span) (second - b)) refl refl
    (limits_join first second items t (c1 + 1) (n1 + 1) t (c2 + 1) (n2 + 1) t (c + 1) (n + 1) (b + (span_len span + 0)) span.stop t stream.4)
limits_join first second (Closed t ∷ items) p1 c1 n1 p2 c2 n2 p c n b position since stream = rw stream.2 refl
limits_join first second (Reset t ∷ items) p1 c1 n1 p2 c2 n2 p c n b position since stream = rw stream.2 refl
limits_join first second (Quiet ∷ items) p1 c1 n1 p2 c2 n2 p c n b position since stream = rw stream refl
