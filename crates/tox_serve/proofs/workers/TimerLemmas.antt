-- The timers of a heap in order.
use Rattle.std.proofs.Common.{◌≡◌, ◌≤◌, Bool, true, false, cond, nat_lt, All, List, [], ◌∷◌, filter, length, map, refl, sym, ap, slice_index_or, arith}
use Rattle.std.proofs.Common.{Contains}
use Rattle.std.specs.BinaryHeap.{IsUpperBound}
use Rattle.std.specs.declared.cmp.Reverse.{Reverse}
use Rattle.std.proofs.lemmas.List.Elements.{All-cons, All-nil, All-contains}
use Rattle.std.proofs.lemmas.Map.Keys.{ge_from_not_lt}
use Rattle.tox_serve.specs.declared.workers.timers.Timer.{Timer}
use Rattle.tox_serve.specs.workers.DueOrder.{earlier_first}
use Rattle.tox_serve.specs.workers.Timers.{IsEarliest}

-- no timer is due before the one that no other is greater than
pub none_before : (first : Reverse Timer) (timers : List (Reverse Timer)) → IsUpperBound earlier_first first timers
    → All (λ other. first.0.due ≤ other.due) (map (λ reversed. reversed.0) timers)
none_before first [] above = All-nil (λ other. first.0.due ≤ other.due)
none_before first (timer ∷ timers) above =
    All-cons (λ other. first.0.due ≤ other.due) timer.0 (map (λ reversed. reversed.0) timers)
    (ge_from_not_lt timer.0.due first.0.due above.0) (none_before first timers above.1)

-- the first of a heap is among its timers
pub first_among : (timers : List (Reverse Timer)) (first : Reverse Timer) → true ≡ nat_lt 0 (length timers)
    → first ≡ slice_index_or timers 0 first → Contains (map (λ reversed. reversed.0) timers) first.0
first_among [] first some is = cc
first_among (timer ∷ timers) first some is = (0, omega arith, ap (λ (reversed : Reverse Timer). reversed.0) (sym is))

-- a timer that is due no later than each is due by any instant by which the earliest is
pub due_by : (timers : List Timer) (timer : Timer) (due now : _) → IsEarliest timers due → due ≤ now
    → All (λ other. timer.due ≤ other.due) timers → timer.due ≤ now
due_by timers timer due now earliest by first =
    let least : timer.due ≤ earliest.timer.due = All-contains (λ other. timer.due ≤ other.due) timers earliest.timer first earliest.among in
    let its : earliest.timer.due ≡ due = earliest.its in
    omega arith

-- the timers of a heap that a test keeps
pub map-filter : (test : Timer → Bool) (timers : List (Reverse Timer))
    → map (λ reversed. reversed.0) (filter (λ reversed. test reversed.0) timers) ≡ filter test (map (λ reversed. reversed.0) timers)
map-filter test [] = refl
map-filter test (timer ∷ timers) =
    let rest = map-filter test timers in
    elim (test timer.0) as (λ b. map (λ (reversed : Reverse Timer). reversed.0)
    (cond b (timer ∷ filter (λ reversed. test reversed.0) timers) (filter (λ reversed. test reversed.0) timers))
    ≡ cond b (timer.0 ∷ filter test (map (λ reversed. reversed.0) timers)) (filter test (map (λ reversed. reversed.0) timers)))
    [ true ↦ ap (λ kept. timer.0 ∷ kept) rest | false ↦ rest ]
