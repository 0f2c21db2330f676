-- What each move keeps, and what it changes at each queue.
use Rattle.std.proofs.Common.{ℕ, zero, suc, ◌+◌, ◌<◌, ◌≤◌, ◌≡◌, ◌≢◌, List, [], ◌∷◌, ◌++◌, Some, length, take, refl, sym, ◌∙◌, ap, subst, set, get_or, arith}
use Rattle.std.proofs.Common.{⊎_elim, append_assoc, length-append, length-set}
use Rattle.std.specs.Prelude.{if◌then◌else◌}
use Rattle.std.specs.List.{slice_get}
use Rattle.std.proofs.lemmas.Bool.{cases_eq, eq-eqb, ne_eqb}
use Rattle.std.proofs.lemmas.List.{append-nil, length_push}
use Rattle.std.proofs.lemmas.Option.{slice_get_within}
use Rattle.tox_time.specs.declared.streams.item.Item.{Item}
use Rattle.tox_network.specs.declared.moves.Move.{Move}
use Rattle.tox_network.specs.declared.moves.Move.TheVariants.{Arrive, Take, Put, Deliver}
use Rattle.tox_network.specs.NetworkState.{NetworkState, queue, unsent_of, unsent_at}
use Rattle.tox_network.specs.Moves.{reacted, after, only_at, entering, leaving}
use Rattle.tox_network.specs.runs.EventualDelivery.{to_give, to_enter, coming, eventual_delivery, sum_to, moves_left}
use Rattle.tox_network.proofs.MoveForms.{arrives, takes, puts, delivers}
use Rattle.tox_network.proofs.Coming.{IsShaped, taken_arrivals, taken_coming, taken_coming_at, taken_given, taken_stage, put_coming, put_given, put_stage}
use Rattle.tox_network.proofs.Coming.{arrived_coming, arrived_stages, delivered_coming, delivered_coming_last, delivered_stages}

-- The shape

-- no move changes how many stages there are
pub keeps_stages : (cap : ℕ) (n t : NetworkState) (move : Move) → after cap n move ≡ Some t → length t.stages ≡ length n.stages
keeps_stages cap n t Arrive h = sym (ap length (arrived_stages cap n t (arrives cap n t h)))
keeps_stages cap n t (Take k) h = let m = takes n k t h in ap (λ u. length u.stages) m.left ∙ length-set n.stages k (reacted m.stage m.item)
keeps_stages cap n t (Put k) h = let m = puts cap n k t h in ap (λ u. length u.stages) m.left ∙ length-set n.stages k (record m.stage { unsent = m.rest })
keeps_stages cap n t Deliver h = sym (ap length (delivered_stages n t (delivers n t h)))

-- nor how many queues
keeps_queues : (cap : ℕ) (n t : NetworkState) (move : Move) → after cap n move ≡ Some t → length t.queues ≡ length n.queues
keeps_queues cap n t Arrive h = let m = arrives cap n t h in ap (λ u. length u.queues) m.left ∙ length-set n.queues 0 (queue n 0 ++ m.item ∷ [])
keeps_queues cap n t (Take k) h = let m = takes n k t h in ap (λ u. length u.queues) m.left ∙ length-set n.queues k m.rest
keeps_queues cap n t (Put k) h = let m = puts cap n k t h in ap (λ u. length u.queues) m.left ∙ length-set n.queues (k + 1) (queue n (k + 1) ++ m.item ∷ [])
keeps_queues cap n t Deliver h = let m = delivers n t h in ap (λ u. length u.queues) m.left ∙ length-set n.queues (length n.stages) m.rest

pub keeps_shape : (cap : ℕ) (n t : NetworkState) (move : Move) → IsShaped n → after cap n move ≡ Some t → IsShaped t
keeps_shape cap n t move shaped h = keeps_queues cap n t move h ∙ shaped ∙ ap (λ count. count + 1) (sym (keeps_stages cap n t move h))

-- The room of queues

-- no queue holds more items than it has room for
abbrev pub HasRoomKept : ℕ → NetworkState → Type 0
HasRoomKept cap n = (k : ℕ) → length (queue n k) ≤ cap

length-set_within : (lists : List (List Item)) (i : ℕ) (items : List Item) (cap : ℕ) → length items ≤ cap → ((k : ℕ) → length (get_or lists k []) ≤ cap)
    → (k : ℕ) → length (get_or (set lists i items) k []) ≤ cap
length-set_within [] i items cap few each k = each k
length-set_within (first ∷ lists) zero items cap few each zero = few
length-set_within (first ∷ lists) zero items cap few each (suc k) = each (suc k)
length-set_within (first ∷ lists) (suc i) items cap few each zero = each 0
length-set_within (first ∷ lists) (suc i) items cap few each (suc k) = length-set_within lists i items cap few (λ j. each (suc j)) k

pub keeps_room : (cap : ℕ) (n t : NetworkState) (move : Move) → after cap n move ≡ Some t → HasRoomKept cap n → HasRoomKept cap t
keeps_room cap n t Arrive h kept k =
    let m = arrives cap n t h in
    let few : length (queue n 0 ++ m.item ∷ []) ≤ cap = omega (arith, length_push (queue n 0) m.item, m.room) in
    subst (λ u. length (queue u k) ≤ cap) (sym m.left) (length-set_within n.queues 0 (queue n 0 ++ m.item ∷ []) cap few kept k)
keeps_room cap n t (Take j) h kept k =
    let m = takes n j t h in
    let few : length m.rest ≤ cap = omega (arith, ap length m.first, kept j) in
    subst (λ u. length (queue u k) ≤ cap) (sym m.left) (length-set_within n.queues j m.rest cap few kept k)
keeps_room cap n t (Put j) h kept k =
    let m = puts cap n j t h in
    let few : length (queue n (j + 1) ++ m.item ∷ []) ≤ cap = omega (arith, length_push (queue n (j + 1)) m.item, m.room) in
    subst (λ u. length (queue u k) ≤ cap) (sym m.left) (length-set_within n.queues (j + 1) (queue n (j + 1) ++ m.item ∷ []) cap few kept k)
keeps_room cap n t Deliver h kept k =
    let m = delivers n t h in
    let few : length m.rest ≤ cap = omega (arith, ap length m.first, kept (length n.stages)) in
    subst (λ u. length (queue u k) ≤ cap) (sym m.left) (length-set_within n.queues (length n.stages) m.rest cap few kept k)

-- The items at each queue

pub only_at-same : (place k : ℕ) (items : List Item) → k ≡ place → only_at place k items ≡ items
only_at-same place k items same = ap (λ here. if here then items else []) (eq-eqb k place same)

pub only_at-other : (place k : ℕ) (items : List Item) → k ≢ place → only_at place k items ≡ []
only_at-other place k items other = ap (λ here. if here then items else []) (ne_eqb k place other)

-- a list as its first item and the others
split_first : (items : List Item) (item : Item) (rest : List Item) → items ≡ item ∷ rest → items ≡ take 1 items ++ rest
split_first items item rest first = first ∙ sym (ap (λ xs. take 1 xs ++ rest) first)

-- the same will be given behind a stage that didn't change
same_given : (n t : NetworkState) (k : ℕ) → slice_get n.stages k ≡ slice_get t.stages k → coming n k ≡ coming t k → to_enter n (suc k) ≡ to_enter t (suc k)
same_given n t k stages items = ap (λ stage. to_give stage (coming n k)) stages ∙ ap (to_give (slice_get t.stages k)) items

-- what will be given to a queue is what the move brings to it, and what will be given to it after that
pub enters : (cap : ℕ) (n t : NetworkState) (move : Move) → IsShaped n → after cap n move ≡ Some t → (k : ℕ) → k ≤ length n.stages
    → to_enter n k ≡ entering n move k ++ to_enter t k
enters cap n t Arrive shaped h zero l =
    let m = arrives cap n t h in
    split_first n.arrivals m.item m.rest m.first
    ∙ ap (λ items. take 1 n.arrivals ++ items) (sym (ap (λ u. u.arrivals) m.left))
    ∙ ap (λ items. items ++ t.arrivals) (sym (only_at-same 0 0 (take 1 n.arrivals) refl))
enters cap n t Arrive shaped h (suc k) l =
    let m = arrives cap n t h in
    let other : suc k ≢ 0 = omega arith in
    same_given n t k (ap (λ stages. slice_get stages k) (arrived_stages cap n t m)) (arrived_coming cap n t shaped m k)
    ∙ ap (λ items. items ++ to_enter t (suc k)) (sym (only_at-other 0 (suc k) (take 1 n.arrivals) other))
enters cap n t (Take j) shaped h zero l = taken_arrivals n j t (takes n j t h)
enters cap n t (Take j) shaped h (suc k) l =
    let m = takes n j t h in
    ⊎_elim
    (λ (e : j ≡ k). ap (λ i. to_give (slice_get n.stages i) (coming n i)) (sym e) ∙ taken_given n j t shaped m
    ∙ ap (λ i. to_give (slice_get t.stages i) (coming t i)) e)
    (λ (ne : j ≡ k → ⊥). let ne' : k ≢ j = omega arith in same_given n t k (taken_stage n j t m k ne') (taken_coming n j t shaped m k ne'))
    (cases_eq j k)
enters cap n t (Put j) shaped h zero l =
    let m = puts cap n j t h in
    let other : 0 ≢ j + 1 = omega arith in
    sym (ap (λ u. u.arrivals) m.left) ∙ ap (λ items. items ++ t.arrivals) (sym (only_at-other (j + 1) 0 (take 1 (unsent_at n j)) other))
enters cap n t (Put j) shaped h (suc k) l =
    let m = puts cap n j t h in
    let rest = to_enter t (suc k) in
    let brought = take 1 (unsent_at n j) in
    ⊎_elim
    (λ (e : j ≡ k).
    ap (λ i. to_give (slice_get n.stages i) (coming n i)) (sym e)
    ∙ put_given cap n j t m
    ∙ ap (λ i. m.item ∷ to_give (slice_get t.stages i) (coming t i)) e
    ∙ ap (λ items. take 1 items ++ rest) (sym (ap unsent_of m.at ∙ m.first))
    ∙ ap (λ items. items ++ rest) (sym (only_at-same (j + 1) (suc k) brought (omega arith))))
    (λ (ne : j ≡ k → ⊥).
    let other : suc k ≢ j + 1 = omega arith in
    same_given n t k (put_stage cap n j t m k (omega arith)) (put_coming cap n j t shaped m k)
    ∙ ap (λ items. items ++ rest) (sym (only_at-other (j + 1) (suc k) brought other)))
    (cases_eq j k)
enters cap n t Deliver shaped h zero l = sym (ap (λ u. u.arrivals) (delivers n t h).left)
enters cap n t Deliver shaped h (suc k) l =
    let m = delivers n t h in
    same_given n t k (ap (λ stages. slice_get stages k) (delivered_stages n t m)) (delivered_coming n t m k (omega arith))

-- what is to come to a queue is what the move takes out of it, and what is to come to it after that
pub leaves : (cap : ℕ) (n t : NetworkState) (move : Move) → IsShaped n → after cap n move ≡ Some t → (k : ℕ) → k ≤ length n.stages
    → coming n k ≡ leaving n move k ++ coming t k
leaves cap n t Arrive shaped h k l = arrived_coming cap n t shaped (arrives cap n t h) k
leaves cap n t (Take j) shaped h k l =
    let m = takes n j t h in
    ⊎_elim
    (λ (e : j ≡ k).
    ap (coming n) (sym e) ∙ taken_coming_at n j t shaped m ∙ ap (λ i. m.item ∷ coming t i) e
    ∙ ap (λ items. take 1 items ++ coming t k) (sym m.first)
    ∙ ap (λ items. items ++ coming t k) (sym (only_at-same j k (take 1 (queue n j)) (sym e))))
    (λ (ne : j ≡ k → ⊥).
    let ne' : k ≢ j = omega arith in
    taken_coming n j t shaped m k ne' ∙ ap (λ items. items ++ coming t k) (sym (only_at-other j k (take 1 (queue n j)) ne')))
    (cases_eq j k)
leaves cap n t (Put j) shaped h k l = put_coming cap n j t shaped (puts cap n j t h) k
leaves cap n t Deliver shaped h k l =
    let m = delivers n t h in
    let last = length n.stages in
    ⊎_elim
    (λ (e : last ≡ k).
    ap (coming n) (sym e) ∙ delivered_coming_last n t shaped m ∙ ap (λ i. m.item ∷ coming t i) e
    ∙ ap (λ items. take 1 items ++ coming t k) (sym m.first)
    ∙ ap (λ items. items ++ coming t k) (sym (only_at-same last k (take 1 (queue n last)) (sym e))))
    (λ (ne : last ≡ k → ⊥).
    let ne' : k ≢ last = omega arith in
    delivered_coming n t m k (omega arith) ∙ ap (λ items. items ++ coming t k) (sym (only_at-other last k (take 1 (queue n last)) ne')))
    (cases_eq last k)

-- what leaves the last queue is delivered
pub delivers_what_leaves : (cap : ℕ) (n t : NetworkState) (move : Move) → after cap n move ≡ Some t
    → t.delivered ≡ n.delivered ++ leaving n move (length n.stages)
delivers_what_leaves cap n t Arrive h = ap (λ u. u.delivered) (arrives cap n t h).left ∙ sym (append-nil n.delivered)
delivers_what_leaves cap n t (Take j) h =
    let m = takes n j t h in
    let within : j < length n.stages = slice_get_within n.stages j m.stage m.at in
    let other : length n.stages ≢ j = omega arith in
    ap (λ u. u.delivered) m.left ∙ sym (append-nil n.delivered) ∙ ap (λ items. n.delivered ++ items)
    (sym (only_at-other j (length n.stages) (take 1 (queue n j)) other))
delivers_what_leaves cap n t (Put j) h = ap (λ u. u.delivered) (puts cap n j t h).left ∙ sym (append-nil n.delivered)
delivers_what_leaves cap n t Deliver h =
    let m = delivers n t h in
    let last = length n.stages in
    ap (λ u. u.delivered) m.left
    ∙ ap (λ items. n.delivered ++ take 1 items) (sym m.first)
    ∙ ap (λ items. n.delivered ++ items) (sym (only_at-same last last (take 1 (queue n last)) refl))

-- The eventual delivery

pub keeps_eventual_delivery : (cap : ℕ) (n t : NetworkState) (move : Move) → IsShaped n → after cap n move ≡ Some t → eventual_delivery t ≡ eventual_delivery n
keeps_eventual_delivery cap n t move shaped h =
    let last = length n.stages in
    ap (λ k. t.delivered ++ coming t k) (keeps_stages cap n t move h)
    ∙ ap (λ items. items ++ coming t last) (delivers_what_leaves cap n t move h)
    ∙ append_assoc n.delivered (leaving n move last) (coming t last)
    ∙ ap (λ items. n.delivered ++ items) (sym (leaves cap n t move shaped h last (omega arith)))

-- The moves still to make

-- the queue that a move brings an item to, or takes one out of
place_of : NetworkState → Move → ℕ
place_of n Arrive = 0
place_of n (Take j) = j
place_of n (Put j) = j + 1
place_of n Deliver = length n.stages

-- how many items a move brings to queue k, and takes out of it
count_at : NetworkState → Move → ℕ → ℕ
count_at n move k = length (entering n move k) + length (leaving n move k)

place_within : (cap : ℕ) (n t : NetworkState) (move : Move) → after cap n move ≡ Some t → place_of n move ≤ length n.stages
unfolding place_of
place_within cap n t Arrive h = omega arith
place_within cap n t (Take j) h = let m = takes n j t h in let within : j < length n.stages = slice_get_within n.stages j m.stage m.at in omega arith
place_within cap n t (Put j) h = let m = puts cap n j t h in let within : j < length n.stages = slice_get_within n.stages j m.stage m.at in omega arith
place_within cap n t Deliver h = omega arith

-- one item is where the list has one
one_first : (place : ℕ) (items : List Item) (item : Item) (rest : List Item) → items ≡ item ∷ rest → length (only_at place place (take 1 items)) ≡ 1
one_first place items item rest first = ap length (only_at-same place place (take 1 items) refl) ∙ ap (λ xs. length (take 1 xs)) first

none_other : (place k : ℕ) (items : List Item) → k ≢ place → length (only_at place k items) ≡ 0
none_other place k items other = ap length (only_at-other place k items other)

count_at-place : (cap : ℕ) (n t : NetworkState) (move : Move) → after cap n move ≡ Some t → count_at n move (place_of n move) ≡ 1
unfolding place_of count_at
count_at-place cap n t Arrive h = let m = arrives cap n t h in omega (arith, one_first 0 n.arrivals m.item m.rest m.first)
count_at-place cap n t (Take j) h = let m = takes n j t h in omega (arith, one_first j (queue n j) m.item m.rest m.first)
count_at-place cap n t (Put j) h = let m = puts cap n j t h in omega (arith, one_first (j + 1) (unsent_at n j) m.item m.rest (ap unsent_of m.at ∙ m.first))
count_at-place cap n t Deliver h = let m = delivers n t h in omega (arith, one_first (length n.stages) (queue n (length n.stages)) m.item m.rest m.first)

count_at-other : (n : NetworkState) (move : Move) (k : ℕ) → k ≢ place_of n move → count_at n move k ≡ 0
unfolding place_of count_at
count_at-other n Arrive k other = omega (arith, none_other 0 k (take 1 n.arrivals) other)
count_at-other n (Take j) k other = omega (arith, none_other j k (take 1 (queue n j)) other)
count_at-other n (Put j) k other = omega (arith, none_other (j + 1) k (take 1 (unsent_at n j)) other)
count_at-other n Deliver k other = omega (arith, none_other (length n.stages) k (take 1 (queue n (length n.stages))) other)

sum_to-same : (f g : ℕ → ℕ) (k : ℕ) → ((j : ℕ) → j ≤ k → f j ≡ g j) → sum_to f k ≡ sum_to g k
sum_to-same f g zero same = same 0 (omega arith)
sum_to-same f g (suc k) same = let before = sum_to-same f g k (λ j l. same j (omega arith)) in let here = same (suc k) (omega arith) in omega arith

-- where one term is one more, the sum is
sum_to-more : (f g : ℕ → ℕ) (i k : ℕ) → i ≤ k → f i ≡ g i + 1 → ((j : ℕ) → j ≤ k → j ≢ i → f j ≡ g j) → sum_to f k ≡ sum_to g k + 1
sum_to-more f g i zero l more same = let e : i ≡ 0 = omega arith in ap f (sym e) ∙ more ∙ ap (λ j. g j + 1) e
sum_to-more f g i (suc k) l more same =
    ⊎_elim
    (λ (e : i ≡ suc k).
    let before : sum_to f k ≡ sum_to g k = sum_to-same f g k (λ j h. same j (omega arith) (omega arith)) in
    let here : f (suc k) ≡ g (suc k) + 1 = ap f (sym e) ∙ more ∙ ap (λ j. g j + 1) e in
    omega arith)
    (λ (ne : i ≡ suc k → ⊥).
    let before : sum_to f k ≡ sum_to g k + 1 = sum_to-more f g i k (omega arith) more (λ j h. same j (omega arith)) in
    let here : f (suc k) ≡ g (suc k) = same (suc k) (omega arith) (omega arith) in
    omega arith)
    (cases_eq i (suc k))

-- each move is one less of those still to make
pub one_less : (cap : ℕ) (n t : NetworkState) (move : Move) → IsShaped n → after cap n move ≡ Some t → moves_left n ≡ moves_left t + 1
unfolding count_at
one_less cap n t move shaped h =
    let last = length n.stages in
    let place = place_of n move in
    let f : ℕ → ℕ = λ k. length (to_enter n k) + length (coming n k) in
    let g : ℕ → ℕ = λ k. length (to_enter t k) + length (coming t k) in
    let both : (k : ℕ) → k ≤ last → f k ≡ g k + count_at n move k = λ k l.
    let e : length (to_enter n k) ≡ length (entering n move k) + length (to_enter t k) = ap length (enters cap n t move shaped h k l)
    ∙ length-append (entering n move k) (to_enter t k) in
    let c : length (coming n k) ≡ length (leaving n move k) + length (coming t k) = ap length (leaves cap n t move shaped h k l)
    ∙ length-append (leaving n move k) (coming t k) in
    omega arith in
    let within : place ≤ last = place_within cap n t move h in
    let more : f place ≡ g place + 1 = both place within ∙ ap (λ count. g place + count) (count_at-place cap n t move h) in
    let same : (k : ℕ) → k ≤ last → k ≢ place → f k ≡ g k = λ k l other. both k l ∙ ap (λ count. g k + count) (count_at-other n move k other) ∙ omega arith in
    sum_to-more f g place last within more same ∙ ap (λ k. sum_to g k + 1) (sym (keeps_stages cap n t move h))
