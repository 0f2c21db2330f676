-- At rest nothing waits; where something does, a move is possible.
use Rattle.std.proofs.Common.{ℕ, zero, suc, ◌+◌, ◌<◌, ◌≤◌, ◌≡◌, List, [], ◌∷◌, ◌++◌, Option, Some, None, length, refl, sym, ◌∙◌, ap, subst, arith, ⊎_elim}
use Rattle.std.specs.List.{slice_get}
use Rattle.std.specs.Option.{option_and_then}
use Rattle.std.proofs.lemmas.Bool.{cases_eq}
use Rattle.std.proofs.lemmas.List.{append-nil, get_or_past}
use Rattle.std.proofs.lemmas.Option.{none-some, same_Some, slice_get_cases, slice_get_within}
use Rattle.tox_time.specs.declared.streams.item.Item.{Item}
use Rattle.tox_network.specs.declared.moves.Move.{Move}
use Rattle.tox_network.specs.declared.moves.Move.TheVariants.{Arrive, Take, Put, Deliver}
use Rattle.tox_network.specs.NetworkState.{NetworkState, StageState, queue, unsent_of, unsent_at}
use Rattle.tox_network.specs.Moves.{after, arrive, take_first, take_at, put_first, put_at, deliver}
use Rattle.tox_network.specs.runs.EventualDelivery.{to_give, to_enter, coming, eventual_delivery, sum_to, moves_left, IsEmpty}
use Rattle.tox_network.specs.runs.Runs.{after_all, IsAtRest, RestingRun}
use Rattle.tox_network.specs.Possible.{if_any, possible, possible_before}
use Rattle.tox_network.proofs.Coming.{IsShaped}
use Rattle.tox_network.proofs.MoveForms.{arrive_is, take_is, put_is, deliver_is}
use Rattle.tox_network.proofs.Kept.{keeps_shape, one_less}

-- Where nothing waits

nothing_given : (stage : Option StageState) → ((one : StageState) → stage ≡ Some one → one.unsent ≡ []) → to_give stage [] ≡ []
nothing_given None none = refl
nothing_given (Some stage) none = ap (λ unsent. unsent ++ []) (none stage refl)

-- nothing comes
pub empty_coming : (n : NetworkState) → IsEmpty n → (k : ℕ) → coming n k ≡ []
empty_coming n e zero = ap (λ items. items ++ n.arrivals) (e.queues 0) ∙ e.arrivals
empty_coming n e (suc k) =
    ap (λ items. items ++ to_give (slice_get n.stages k) (coming n k)) (e.queues (k + 1))
    ∙ ap (to_give (slice_get n.stages k)) (empty_coming n e k)
    ∙ nothing_given (slice_get n.stages k) (e.unsent k)

-- and nothing is given
pub empty_to_enter : (n : NetworkState) → IsEmpty n → (k : ℕ) → to_enter n k ≡ []
empty_to_enter n e zero = e.arrivals
empty_to_enter n e (suc k) = ap (to_give (slice_get n.stages k)) (empty_coming n e k) ∙ nothing_given (slice_get n.stages k) (e.unsent k)

-- and all is delivered
pub empty_eventual_delivery : (n : NetworkState) → IsEmpty n → eventual_delivery n ≡ n.delivered
empty_eventual_delivery n e = ap (λ items. n.delivered ++ items) (empty_coming n e (length n.stages)) ∙ append-nil n.delivered

sum_to-zero : (f : ℕ → ℕ) (k : ℕ) → ((j : ℕ) → f j ≡ 0) → sum_to f k ≡ 0
sum_to-zero f zero each = each 0
sum_to-zero f (suc k) each = let before : sum_to f k ≡ 0 = sum_to-zero f k each in let here = each (suc k) in omega arith

-- and no move is left
pub empty_moves_left : (n : NetworkState) → IsEmpty n → moves_left n ≡ 0
empty_moves_left n e =
    sum_to-zero (λ k. length (to_enter n k) + length (coming n k)) (length n.stages)
    (λ k. let a : length (to_enter n k) ≡ 0 = ap length (empty_to_enter n e k) in let b : length (coming n k) ≡ 0 = ap length (empty_coming n e k) in
    omega arith)

not_taken : (n : NetworkState) (k : ℕ) (stage : Option StageState) → ((one : StageState) → stage ≡ Some one → one.unsent ≡ []) → queue n k ≡ []
    → take_at n k stage ≡ None
not_taken n k None idle none = refl
not_taken n k (Some stage) idle none = ap (take_first n k stage stage.unsent) none ∙ ap (λ unsent. take_first n k stage unsent []) (idle stage refl)

not_put : (cap : ℕ) (n : NetworkState) (k : ℕ) (stage : Option StageState) → ((one : StageState) → stage ≡ Some one → one.unsent ≡ [])
    → put_at cap n k stage ≡ None
not_put cap n k None idle = refl
not_put cap n k (Some stage) idle = ap (put_first cap n k stage) (idle stage refl)

-- and no move is possible
pub empty_rest : (cap : ℕ) (n : NetworkState) → IsEmpty n → IsAtRest cap n
empty_rest cap n e Arrive = ap (arrive cap n) e.arrivals
empty_rest cap n e (Take k) = not_taken n k (slice_get n.stages k) (e.unsent k) (e.queues k)
empty_rest cap n e (Put k) = not_put cap n k (slice_get n.stages k) (e.unsent k)
empty_rest cap n e Deliver = ap (deliver n) (e.queues (length n.stages))

-- Where something waits

-- what `possible` tells: a move that can be made, or that nothing waits
abbrev pub Finds : ℕ → NetworkState → Option Move → Type 0
Finds cap n (Some move) = (t : NetworkState) × (after cap n move ≡ Some t)
Finds cap n None = IsEmpty n

-- from queue k on, nothing waits
record IsClear (n : NetworkState) (from : ℕ) : Type 0 where
  queues : (k : ℕ) → from ≤ k → queue n k ≡ []
  unsent : (k : ℕ) (stage : StageState) → from ≤ k → slice_get n.stages k ≡ Some stage → stage.unsent ≡ []

clear_start : (n : NetworkState) → IsShaped n → queue n (length n.stages) ≡ [] → IsClear n (length n.stages)
clear_start n shaped none = record {
  queues = λ k l. ⊎_elim
      (λ (e : length n.stages ≡ k). subst (λ j. queue n j ≡ []) e none)
      (λ (ne : length n.stages ≡ k → ⊥). get_or_past n.queues k [] (omega arith))
      (cases_eq (length n.stages) k);
  unsent = λ k stage l at. let within : k < length n.stages = slice_get_within n.stages k stage at in absurd (omega arith);
}

clear_more : (n : NetworkState) (k : ℕ) (stage : StageState) → IsClear n (suc k) → slice_get n.stages k ≡ Some stage → stage.unsent ≡ [] → queue n k ≡ []
    → IsClear n k
clear_more n k stage clear at idle none = record {
  queues = λ j l. ⊎_elim
      (λ (e : k ≡ j). subst (λ i. queue n i ≡ []) e none)
      (λ (ne : k ≡ j → ⊥). clear.queues j (omega arith))
      (cases_eq k j);
  unsent = λ j other l there. ⊎_elim
      (λ (e : k ≡ j).
      let same : stage ≡ other = same_Some _ _ (sym at ∙ subst (λ i. slice_get n.stages i ≡ Some other) (sym e) there) in
      sym (ap (λ (one : StageState). one.unsent) same) ∙ idle)
      (λ (ne : k ≡ j → ⊥). clear.unsent j other (omega arith) there)
      (cases_eq k j);
}

finds_if : (cap : ℕ) (n : NetworkState) (items : List Item) (move : Move) (other : Option Move)
    → ((item : Item) (rest : List Item) → items ≡ item ∷ rest → Finds cap n (Some move)) → (items ≡ [] → Finds cap n other)
    → Finds cap n (if_any items move other)
finds_if cap n [] move other some none = none refl
finds_if cap n (item ∷ rest) move other some none = some item rest refl

finds_before : (cap : ℕ) (n : NetworkState) (k : ℕ) → 1 ≤ cap → k ≤ length n.stages → IsClear n k → Finds cap n (possible_before n k)
finds_before cap n zero room l clear =
    finds_if cap n n.arrivals Arrive None
    (λ item rest first. let few : length (queue n 0) ≡ 0 = ap length (clear.queues 0 (omega arith)) in (_, arrive_is cap n item rest first (omega arith)))
    (λ none. record { arrivals = none; queues = λ k. clear.queues k (omega arith); unsent = λ k stage at. clear.unsent k stage (omega arith) at })
finds_before cap n (suc k) room l clear =
    ⊎_elim
    (λ found.
    let stage = found.0 in
    let unsent : unsent_at n k ≡ stage.unsent = ap unsent_of found.2 in
    finds_if cap n (unsent_at n k) (Put k) (if_any (queue n k) (Take k) (possible_before n k))
    (λ item rest first.
    let few : length (queue n (k + 1)) ≡ 0 = ap length (clear.queues (k + 1) (omega arith)) in
    (_, put_is cap n k stage item rest found.2 (sym unsent ∙ first) (omega arith)))
    (λ none. finds_if cap n (queue n k) (Take k) (possible_before n k)
    (λ item rest first. (_, take_is n k stage item rest found.2 (sym unsent ∙ none) first))
    (λ nothing. finds_before cap n k room (omega arith) (clear_more n k stage clear found.2 (sym unsent ∙ none) nothing))))
    (λ past. absurd (omega arith))
    (slice_get_cases n.stages k).1

-- the move that `possible` tells can be made, and where it tells none, nothing waits
pub finds_possible : (cap : ℕ) (n : NetworkState) → 1 ≤ cap → IsShaped n → Finds cap n (possible n)
finds_possible cap n room shaped =
    finds_if cap n (queue n (length n.stages)) Deliver (possible_before n (length n.stages))
    (λ item rest first. (_, deliver_is n item rest first))
    (λ none. finds_before cap n (length n.stages) room (omega arith) (clear_start n shaped none))

finds_empty : (cap : ℕ) (n : NetworkState) (reported : Option Move) → Finds cap n reported → IsAtRest cap n → IsEmpty n
finds_empty cap n (Some move) found rest = absurd (none-some found.0 (sym (rest move) ∙ found.1))
finds_empty cap n None found rest = found

-- at rest nothing waits
pub rest_empty : (cap : ℕ) (n : NetworkState) → 1 ≤ cap → IsShaped n → IsAtRest cap n → IsEmpty n
rest_empty cap n room shaped rest = finds_empty cap n (possible n) (finds_possible cap n room shaped) rest

-- at rest `possible` tells no move
pub rest_possible : (cap : ℕ) (n : NetworkState) (reported : Option Move) → Finds cap n reported → IsAtRest cap n → reported ≡ None
rest_possible cap n (Some move) found rest = absurd (none-some found.0 (sym (rest move) ∙ found.1))
rest_possible cap n None found rest = refl

-- and so every network comes to rest
rests_from : (cap : ℕ) (n : NetworkState) (left : ℕ) (reported : Option Move) → 1 ≤ cap → IsShaped n → moves_left n ≡ left → Finds cap n reported
    → RestingRun cap n
rests_from cap n left None room shaped count found = record { moves = []; state = n; run = refl; rest = empty_rest cap n found }
rests_from cap n zero (Some move) room shaped count found =
    let e : moves_left n ≡ moves_left found.0 + 1 = one_less cap n found.0 move shaped found.1 in absurd (omega arith)
rests_from cap n (suc left) (Some move) room shaped count found =
    let e : moves_left n ≡ moves_left found.0 + 1 = one_less cap n found.0 move shaped found.1 in
    let still_shaped : IsShaped found.0 = keeps_shape cap n found.0 move shaped found.1 in
    let later : RestingRun cap found.0 = rests_from cap found.0 left (possible found.0) room still_shaped (omega arith)
    (finds_possible cap found.0 room still_shaped) in
    record { moves = move ∷ later.moves; state = later.state; run = ap (option_and_then (after_all cap later.moves)) found.1 ∙ later.run; rest = later.rest }

pub comes_to_rest : (cap : ℕ) (n : NetworkState) → 1 ≤ cap → IsShaped n → RestingRun cap n
comes_to_rest cap n room shaped = rests_from cap n (moves_left n) (possible n) room shaped refl (finds_possible cap n room shaped)
