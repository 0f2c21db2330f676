-- Slow closes: two add, and one of zero does nothing.
use Rattle.std.proofs.Common.{◌≡◌, ℕ, ◌+◌, List, [], ◌∷◌, refl, arith, ap}
use Rattle.tox_time.specs.declared.streams.item.Item.{Item}
use Rattle.tox_time.specs.declared.streams.item.Item.TheVariants.{Chunk, Closed, Reset, Quiet}
use Rattle.tox_time.specs.Time.{plus}
use Rattle.tox_time.specs.streams.Stream.{span_len, IsStreamFrom}
use Rattle.tox_defs.specs.stage.Reaction.{counted, flow_from}
use Rattle.tox_defs.specs.toxics.SlowClose.{slow_gives}
use Rattle.tox_defs.proofs.OpenStates.{open_state}

-- closes that come later, one after the other
pub slows_join : (first second both : ℕ) → both ≡ first + second → (items : List Item) (p1 c1 n1 b1 p2 c2 n2 b2 p c n b position since : ℕ)
    → IsStreamFrom position since items
    → flow_from (counted (slow_gives second)) (open_state p2 c2 n2 b2) (flow_from (counted (slow_gives first)) (open_state p1 c1 n1 b1) items)
    ≡ flow_from (counted (slow_gives both)) (open_state p c n b) items
slows_join first second both sum [] p1 c1 n1 b1 p2 c2 n2 b2 p c n b position since stream = refl
slows_join first second both sum (Chunk span t ∷ items) p1 c1 n1 b1 p2 c2 n2 b2 p c n b position since stream =
    ap (λ others. Chunk span t ∷ others)
    (slows_join first second both sum items t (c1 + 1) (n1 + 1) (b1 + (span_len span + 0)) t (c2 + 1) (n2 + 1) (b2 + (span_len span + 0)) t (c + 1) (n + 1)
    (b + (span_len span + 0)) span.stop t stream.4)
slows_join first second both sum (Closed t ∷ items) p1 c1 n1 b1 p2 c2 n2 b2 p c n b position since stream =
    let late : plus (plus t first) second ≡ plus t both = omega arith in rw stream.2 (ap (λ at. Closed at ∷ []) late)
slows_join first second both sum (Reset t ∷ items) p1 c1 n1 b1 p2 c2 n2 b2 p c n b position since stream = rw stream.2 refl
slows_join first second both sum (Quiet ∷ items) p1 c1 n1 b1 p2 c2 n2 b2 p c n b position since stream = rw stream refl

-- a close that comes no later
pub slow_vanishes : (items : List Item) (p c n b position since : ℕ) → IsStreamFrom position since items
    → flow_from (counted (slow_gives 0)) (open_state p c n b) items ≡ items
slow_vanishes [] p c n b position since stream = refl
slow_vanishes (Chunk span t ∷ items) p c n b position since stream =
    ap (λ others. Chunk span t ∷ others) (slow_vanishes items t (c + 1) (n + 1) (b + (span_len span + 0)) span.stop t stream.4)
slow_vanishes (Closed t ∷ items) p c n b position since stream =
    let same : plus t 0 ≡ t = omega (arith, stream.1) in rw stream.2 (ap (λ at. Closed at ∷ []) same)
slow_vanishes (Reset t ∷ items) p c n b position since stream = rw stream.2 refl
slow_vanishes (Quiet ∷ items) p c n b position since stream = rw stream refl
