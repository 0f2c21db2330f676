-- What is to come at the start of a network.
use Rattle.std.proofs.Common.{ℕ, zero, suc, ◌+◌, ◌*◌, ◌≤◌, ◌≡◌, List, [], ◌∷◌, ◌++◌, Some, length, take, replicate, refl, sym, ◌∙◌, ap, subst, arith, ⊎_elim}
use Rattle.std.proofs.Common.{get_or}
use Rattle.std.specs.List.{slice_get}
use Rattle.std.specs.Option.{option_map}
use Rattle.std.proofs.lemmas.List.{length-replicate, length-map, take_all}
use Rattle.std.proofs.lemmas.Option.{none-some, same_Some, slice_get-map, slice_get_cases}
use Rattle.tox_time.specs.declared.streams.item.Item.{Item}
use Rattle.tox_defs.specs.stage.Reaction.{Reaction, flow, flow_through}
use Rattle.tox_network.specs.NetworkState.{NetworkState, idle_stage, start, queue}
use Rattle.tox_network.specs.runs.EventualDelivery.{to_give, to_enter, coming, eventual_delivery, sum_to, moves_left}
use Rattle.tox_network.proofs.Coming.{IsShaped}

pub start_stages : (reactions : List Reaction) (arrivals : List Item) → length (start reactions arrivals).stages ≡ length reactions
start_stages reactions arrivals = length-map reactions idle_stage

pub start_shaped : (reactions : List Reaction) (arrivals : List Item) → IsShaped (start reactions arrivals)
start_shaped reactions arrivals =
    let none : List Item = [] in
    length-replicate (length reactions + 1) none ∙ ap (λ count. count + 1) (sym (start_stages reactions arrivals))

none-replicate : (count k : ℕ) → get_or (replicate {A = List Item} count []) k [] ≡ []
none-replicate zero k = refl
none-replicate (suc count) zero = refl
none-replicate (suc count) (suc k) = none-replicate count k

-- at first each queue is empty
pub start_queue : (reactions : List Reaction) (arrivals : List Item) (k : ℕ) → queue (start reactions arrivals) k ≡ []
start_queue reactions arrivals k = none-replicate (length reactions + 1) k

-- one reaction more
flow_through-more : (reactions : List Reaction) (items : List Item) (k : ℕ) (reaction : Reaction) → slice_get reactions k ≡ Some reaction
    → flow_through (take (suc k) reactions) items ≡ flow reaction (flow_through (take k reactions) items)
flow_through-more [] items k reaction h = absurd (none-some reaction h)
flow_through-more (first ∷ reactions) items zero reaction h = ap (λ one. flow one items) (same_Some _ _ h)
flow_through-more (first ∷ reactions) items (suc k) reaction h = flow_through-more reactions (flow first items) k reaction h

start_stage : (reactions : List Reaction) (arrivals : List Item) (k : ℕ) (reaction : Reaction) → slice_get reactions k ≡ Some reaction
    → slice_get (start reactions arrivals).stages k ≡ Some (idle_stage reaction)
start_stage reactions arrivals k reaction at = slice_get-map idle_stage reactions k ∙ ap (option_map idle_stage) at

-- at first, what comes to queue k is what will be given to it
start_queued : (reactions : List Reaction) (arrivals : List Item) (k : ℕ) → coming (start reactions arrivals) k ≡ to_enter (start reactions arrivals) k
start_queued reactions arrivals zero = ap (λ items. items ++ arrivals) (start_queue reactions arrivals 0)
start_queued reactions arrivals (suc k) = ap (λ items. items ++ to_enter (start reactions arrivals) (suc k)) (start_queue reactions arrivals (k + 1))

-- and that is the flow through the first k reactions
pub start_enters : (reactions : List Reaction) (arrivals : List Item) (k : ℕ) → k ≤ length reactions
    → to_enter (start reactions arrivals) k ≡ flow_through (take k reactions) arrivals
start_enters reactions arrivals zero l = refl
start_enters reactions arrivals (suc k) l =
    ⊎_elim
    (λ found.
    ap (λ stage. to_give stage (coming (start reactions arrivals) k)) (start_stage reactions arrivals k found.0 found.2)
    ∙ ap (flow found.0) (start_queued reactions arrivals k ∙ start_enters reactions arrivals k (omega arith))
    ∙ sym (flow_through-more reactions arrivals k found.0 found.2))
    (λ past. absurd (omega arith))
    (slice_get_cases reactions k).1

pub start_coming : (reactions : List Reaction) (arrivals : List Item) (k : ℕ) → k ≤ length reactions
    → coming (start reactions arrivals) k ≡ flow_through (take k reactions) arrivals
start_coming reactions arrivals k l = start_queued reactions arrivals k ∙ start_enters reactions arrivals k l

pub start_eventual_delivery : (reactions : List Reaction) (arrivals : List Item)
    → eventual_delivery (start reactions arrivals) ≡ flow_through reactions arrivals
start_eventual_delivery reactions arrivals =
    ap (coming (start reactions arrivals)) (start_stages reactions arrivals)
    ∙ start_coming reactions arrivals (length reactions) (omega arith)
    ∙ ap (λ all. flow_through all arrivals) (take_all (length reactions) reactions (omega arith))

sum_to-most : (f : ℕ → ℕ) (most k : ℕ) → ((j : ℕ) → j ≤ k → f j ≤ most) → sum_to f k ≤ (k + 1) * most
sum_to-most f most zero each = let here = each 0 (omega arith) in omega arith
sum_to-most f most (suc k) each =
    let before : sum_to f k ≤ (k + 1) * most = sum_to-most f most k (λ j l. each j (omega arith)) in
    let here : f (suc k) ≤ most = each (suc k) (omega arith) in
    let more : (suc k + 1) * most ≡ (k + 1) * most + most = omega arith in
    omega arith

-- the moves of a whole run, where no flow has more than so many items
pub start_moves : (reactions : List Reaction) (arrivals : List Item) (most : ℕ)
    → ((k : ℕ) → k ≤ length reactions → length (flow_through (take k reactions) arrivals) ≤ most)
    → moves_left (start reactions arrivals) ≤ (2 * length reactions + 2) * most
start_moves reactions arrivals most few =
    let n : NetworkState = start reactions arrivals in
    let count = length reactions in
    let f : ℕ → ℕ = λ k. length (to_enter n k) + length (coming n k) in
    let each : (k : ℕ) → k ≤ count → f k ≤ 2 * most = λ k l.
    let e : length (to_enter n k) ≡ length (flow_through (take k reactions) arrivals) = ap length (start_enters reactions arrivals k l) in
    let c : length (coming n k) ≡ length (flow_through (take k reactions) arrivals) = ap length (start_coming reactions arrivals k l) in
    let b = few k l in
    omega arith in
    let sum : sum_to f count ≤ (count + 1) * (2 * most) = sum_to-most f (2 * most) count each in
    let product : (count + 1) * (2 * most) ≡ (2 * count + 2) * most = omega arith in
    let all : sum_to f count ≤ (2 * count + 2) * most = omega arith in
    subst (λ k. sum_to f k ≤ (2 * count + 2) * most) (sym (start_stages reactions arrivals)) all
