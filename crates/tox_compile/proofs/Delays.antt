-- Delays: two add where one of them is the same for all chunks, and one of nothing does nothing.
use Rattle.std.proofs.Common.{◌≡◌, ℕ, ◌+◌, ◌≤◌, max, Bool, true, false, ◌++◌, ◌∙◌, if◌then◌else◌, List, [], ◌∷◌, refl, arith, ap}
use Rattle.tox_time.specs.declared.streams.span.Span.{Span}
use Rattle.tox_time.specs.declared.streams.item.Item.{Item}
use Rattle.tox_time.specs.declared.streams.item.Item.TheVariants.{Chunk, Closed, Reset, Quiet}
use Rattle.tox_time.specs.Time.{horizon, plus}
use Rattle.tox_time.specs.streams.Stream.{span_len, IsStreamFrom}
use Rattle.tox_time.specs.declared.streams.ending.Ending.{Ending}
use Rattle.tox_time.specs.declared.streams.ending.Ending.TheVariants.{StillOpen, Closed as ClosedAt, Reset as ResetAt}
use Rattle.tox_time.specs.streams.Table.{final_of}
use Rattle.tox_defs.specs.stage.Reaction.{Answer, Reaction, counted, flow_from}
use Rattle.tox_defs.specs.operations.During.{during, is_outside, uncounted_answer}
use Rattle.tox_defs.proofs.Windows.{during-inside, is_outside-final}
use Rattle.tox_defs.specs.toxics.Latency.{delay_gives}
use Rattle.tox_defs.proofs.OpenStates.{open_state}

-- a delay whose second part is always the same
pub delays_join_second : (first : ℕ → ℕ) (second : ℕ) (both : ℕ → ℕ) → ((i : ℕ) → both i ≡ first i + second)
    → (items : List Item) (c p1 n1 b1 p2 n2 b2 n b position since : ℕ) → p1 ≤ p2 → p2 ≤ horizon → plus p1 second ≤ max p2 (plus 0 second)
    → IsStreamFrom position since items → flow_from (counted (delay_gives (λ _. second))) (open_state p2 c n2 b2)
    (flow_from (counted (delay_gives first)) (open_state p1 c n1 b1) items) ≡ flow_from (counted (delay_gives both)) (open_state p2 c n b) items
delays_join_second first second both sum [] c p1 n1 b1 p2 n2 b2 n b position since order fits kept stream = refl
delays_join_second first second both sum (Chunk span t ∷ items) c p1 n1 b1 p2 n2 b2 n b position since order fits kept stream =
    let wait : both c ≡ first c + second = sum c in
    let same : max p2 (plus (max p1 (plus t (first c))) second) ≡ max p2 (plus t (both c)) = omega (arith, wait, kept) in
    let others = delays_join_second first second both sum items (c + 1) (max p1 (plus t (first c))) (n1 + 1) (b1 + (span_len span + 0))
    (max p2 (plus (max p1 (plus t (first c))) second)) (n2 + 1) (b2 + (span_len span + 0)) (n + 1) (b + (span_len span + 0)) span.stop t
    (omega (arith, order, fits)) (omega (arith, fits)) (omega arith) stream.4 in
    cc
delays_join_second first second both sum (Closed t ∷ items) c p1 n1 b1 p2 n2 b2 n b position since order fits kept stream =
    let same : max p2 (max p1 t) ≡ max p2 t = omega arith in rw stream.2 (ap (λ at. Closed at ∷ []) same)
delays_join_second first second both sum (Reset t ∷ items) c p1 n1 b1 p2 n2 b2 n b position since order fits kept stream =
    let same : max p2 (max p1 t) ≡ max p2 t = omega arith in rw stream.2 (ap (λ at. Reset at ∷ []) same)
delays_join_second first second both sum (Quiet ∷ items) c p1 n1 b1 p2 n2 b2 n b position since order fits kept stream = rw stream refl

-- a delay whose first part is always the same
pub delays_join_first : (first : ℕ) (second both : ℕ → ℕ) → ((i : ℕ) → both i ≡ first + second i)
    → (items : List Item) (c p1 n1 b1 p2 n2 b2 n b position since : ℕ) → p1 ≤ p2 → p2 ≤ horizon → p1 ≤ plus since first → IsStreamFrom position since items
    → flow_from (counted (delay_gives second)) (open_state p2 c n2 b2) (flow_from (counted (delay_gives (λ _. first))) (open_state p1 c n1 b1) items)
    ≡ flow_from (counted (delay_gives both)) (open_state p2 c n b) items
delays_join_first first second both sum [] c p1 n1 b1 p2 n2 b2 n b position since order fits kept stream = refl
delays_join_first first second both sum (Chunk span t ∷ items) c p1 n1 b1 p2 n2 b2 n b position since order fits kept stream =
    let wait : both c ≡ first + second c = sum c in
    let same : max p2 (plus (max p1 (plus t first)) (second c)) ≡ max p2 (plus t (both c)) = omega (arith, wait, kept, stream.2) in
    let others = delays_join_first first second both sum items (c + 1) (max p1 (plus t first)) (n1 + 1) (b1 + (span_len span + 0))
    (max p2 (plus (max p1 (plus t first)) (second c))) (n2 + 1) (b2 + (span_len span + 0)) (n + 1) (b + (span_len span + 0)) span.stop t
    (omega (arith, order, fits)) (omega (arith, fits)) (omega (arith, kept, stream.2)) stream.4 in
    cc
delays_join_first first second both sum (Closed t ∷ items) c p1 n1 b1 p2 n2 b2 n b position since order fits kept stream =
    let same : max p2 (max p1 t) ≡ max p2 t = omega arith in rw stream.2 (ap (λ at. Closed at ∷ []) same)
delays_join_first first second both sum (Reset t ∷ items) c p1 n1 b1 p2 n2 b2 n b position since order fits kept stream =
    let same : max p2 (max p1 t) ≡ max p2 t = omega arith in rw stream.2 (ap (λ at. Reset at ∷ []) same)
delays_join_first first second both sum (Quiet ∷ items) c p1 n1 b1 p2 n2 b2 n b position since order fits kept stream = rw stream refl

-- a chunk leaves at its instant, outside the time of the delay or not
vanishes_at_chunk : (outside : Bool) (reaction : Reaction) (wait : ℕ → ℕ) (span : Span) (t : ℕ) (items : List Item) (p c n b : ℕ) → max p t ≡ t
    → max p (plus t (wait c)) ≡ t
    → ((c n b : ℕ) → flow_from reaction (open_state t c n b) items ≡ items)
    → (if outside then uncounted_answer (open_state p c n b) (Chunk span t) else counted (delay_gives wait) (open_state p c n b) (Chunk span t)).given
    ++ flow_from reaction (if outside then uncounted_answer (open_state p c n b) (Chunk span t) else counted (delay_gives wait) (open_state p c n b)
    (Chunk span t)).state items ≡ Chunk span t ∷ items
vanishes_at_chunk true reaction wait span t items p c n b at_once delayed others =
    ap (λ at. Chunk span at ∷ flow_from reaction (open_state at c n b) items) at_once ∙ ap (λ items. Chunk span t ∷ items) (others c n b)
vanishes_at_chunk false reaction wait span t items p c n b at_once delayed others =
    ap (λ at. Chunk span at ∷ flow_from reaction (open_state at (c + 1) (n + 1) (b + (span_len span + 0))) items) delayed
    ∙ ap (λ items. Chunk span t ∷ items) (others (c + 1) (n + 1) (b + (span_len span + 0)))

-- an ending is within the time of every delay
vanishes_at_end : (wait : ℕ → ℕ) (from until : ℕ) (end : Ending) (p c n b : ℕ)
    → flow_from (during from until (counted (delay_gives wait))) (open_state p c n b) (final_of end ∷ [])
    ≡ delay_gives wait (open_state p c n b) (final_of end) ++ []
vanishes_at_end wait from until end p c n b =
    ap (λ (answer : Answer). answer.given ++ []) (during-inside from until (counted (delay_gives wait)) (open_state p c n b) (final_of end)
    (is_outside-final from until end))

-- whenever it begins and stops
pub delay_vanishes : (wait : ℕ → ℕ) → ((i : ℕ) → wait i ≡ 0) → (from until : ℕ) (items : List Item) (p c n b position since : ℕ) → p ≤ since
    → IsStreamFrom position since items → flow_from (during from until (counted (delay_gives wait))) (open_state p c n b) items ≡ items
delay_vanishes wait none from until [] p c n b position since before stream = refl
delay_vanishes wait none from until (Chunk span t ∷ items) p c n b position since before stream =
    vanishes_at_chunk (is_outside from until (Chunk span t)) (during from until (counted (delay_gives wait))) wait span t items p c n b
    (omega (arith, before, stream.2)) (omega (arith, none c, before, stream.2, stream.3))
    (λ c n b. delay_vanishes wait none from until items t c n b span.stop t (omega arith) stream.4)
delay_vanishes wait none from until (Closed t ∷ items) p c n b position since before stream =
    let same : max p t ≡ t = omega (arith, before, stream.0) in rw stream.2
    (vanishes_at_end wait from until (ClosedAt t) p c n b ∙ ap (λ at. Closed at ∷ []) same)
delay_vanishes wait none from until (Reset t ∷ items) p c n b position since before stream =
    let same : max p t ≡ t = omega (arith, before, stream.0) in rw stream.2
    (vanishes_at_end wait from until (ResetAt t) p c n b ∙ ap (λ at. Reset at ∷ []) same)
delay_vanishes wait none from until (Quiet ∷ items) p c n b position since before stream = rw stream (vanishes_at_end wait from until StillOpen p c n b)
