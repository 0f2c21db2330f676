-- How each move changes what is to come to each queue.
use Rattle.std.proofs.Common.{ℕ, zero, suc, ◌+◌, ◌<◌, ◌≤◌, ◌≡◌, ◌≢◌, List, [], ◌∷◌, ◌++◌, Some, length, sym, ◌∙◌, ap, subst, arith, append_assoc, ⊎_elim}
use Rattle.std.proofs.Common.{get_or-set_same, get_or-set_other}
use Rattle.std.specs.List.{slice_get}
use Rattle.std.proofs.lemmas.Bool.{cases_lt}
use Rattle.std.proofs.lemmas.Option.{slice_get_within}
use Rattle.tox_time.specs.declared.streams.item.Item.{Item}
use Rattle.tox_defs.specs.stage.Reaction.{flow_from}
use Rattle.tox_network.specs.NetworkState.{NetworkState, queue}
use Rattle.tox_network.specs.Moves.{reacted}
use Rattle.tox_network.specs.runs.EventualDelivery.{to_give, coming}
use Rattle.tox_network.proofs.Replaced.{slice_get-set_same, slice_get-set_other}
use Rattle.tox_network.proofs.MoveForms.{Arrives, Takes, Puts, Delivers}

-- a queue before each stage and one behind the last
abbrev pub IsShaped : NetworkState → Type 0
IsShaped n = length n.queues ≡ length n.stages + 1

-- the same up to queue k
pub coming_same : (n t : NetworkState) (k : ℕ) → n.arrivals ≡ t.arrivals → ((j : ℕ) → j ≤ k → queue n j ≡ queue t j)
    → ((j : ℕ) → j < k → slice_get n.stages j ≡ slice_get t.stages j) → coming n k ≡ coming t k
coming_same n t zero a q s = ap (λ items. items ++ n.arrivals) (q 0 (omega arith)) ∙ ap (λ items. queue t 0 ++ items) a
coming_same n t (suc k) a q s =
    let before : coming n k ≡ coming t k = coming_same n t k a (λ j h. q j (omega arith)) (λ j h. s j (omega arith)) in
    ap (λ items. items ++ to_give (slice_get n.stages k) (coming n k)) (q (k + 1) (omega arith))
    ∙ ap (λ stage. queue t (k + 1) ++ to_give stage (coming n k)) (s k (omega arith))
    ∙ ap (λ items. queue t (k + 1) ++ to_give (slice_get t.stages k) items) before

-- the same from queue i on
pub coming_from : (n t : NetworkState) (i k : ℕ) → i ≤ k → coming n i ≡ coming t i → ((j : ℕ) → i < j → queue n j ≡ queue t j)
    → ((j : ℕ) → i ≤ j → slice_get n.stages j ≡ slice_get t.stages j) → coming n k ≡ coming t k
coming_from n t i zero h c q s = let e : i ≡ 0 = omega arith in subst (λ j. coming n j ≡ coming t j) e c
coming_from n t i (suc k) h c q s =
    ⊎_elim
    (λ (l : k < i). let e : i ≡ suc k = omega arith in subst (λ j. coming n j ≡ coming t j) e c)
    (λ (l : i ≤ k).
    ap (λ items. items ++ to_give (slice_get n.stages k) (coming n k)) (q (k + 1) (omega arith))
    ∙ ap (λ stage. queue t (k + 1) ++ to_give stage (coming n k)) (s k l)
    ∙ ap (λ items. queue t (k + 1) ++ to_give (slice_get t.stages k) items) (coming_from n t i k l c q s))
    (cases_lt k i)

-- queue k has one item less, and all before it is the same
pub coming_less : (n t : NetworkState) (k : ℕ) (item : Item) → n.arrivals ≡ t.arrivals → queue n k ≡ item ∷ queue t k
    → ((j : ℕ) → j < k → queue n j ≡ queue t j) → ((j : ℕ) → j < k → slice_get n.stages j ≡ slice_get t.stages j) → coming n k ≡ item ∷ coming t k
coming_less n t zero item a e q s = ap (λ items. items ++ n.arrivals) e ∙ ap (λ items. item ∷ (queue t 0 ++ items)) a
coming_less n t (suc k) item a e q s =
    let here : queue n (k + 1) ≡ item ∷ queue t (k + 1) = subst (λ j. queue n j ≡ item ∷ queue t j) (omega arith) e in
    let before : coming n k ≡ coming t k = coming_same n t k a (λ j h. q j (omega arith)) (λ j h. s j (omega arith)) in
    ap (λ items. items ++ to_give (slice_get n.stages k) (coming n k)) here
    ∙ ap (λ stage. item ∷ (queue t (k + 1) ++ to_give stage (coming n k))) (s k (omega arith))
    ∙ ap (λ items. item ∷ (queue t (k + 1) ++ to_give (slice_get t.stages k) items)) before

-- what comes first is the first item of the queue
pub coming_first : (n : NetworkState) (k : ℕ) (item : Item) (rest : List Item) → queue n k ≡ item ∷ rest → (items : List Item) × (coming n k ≡ item ∷ items)
coming_first n zero item rest e = (rest ++ n.arrivals, ap (λ items. items ++ n.arrivals) e)
coming_first n (suc k) item rest e =
    let given = to_give (slice_get n.stages k) (coming n k) in
    let here : queue n (k + 1) ≡ item ∷ rest = subst (λ j. queue n j ≡ item ∷ rest) (omega arith) e in
    (rest ++ given, ap (λ items. items ++ given) here)

-- an item that goes from the front of one list to the end of another
pub pass_on : {A : Type 0} (xs : List A) (y : A) (zs : List A) → xs ++ (y ∷ zs) ≡ (xs ++ y ∷ []) ++ zs
pass_on xs y zs = sym (append_assoc xs (y ∷ []) zs)

-- Take

pub taken_arrivals : (n : NetworkState) (k : ℕ) (t : NetworkState) → Takes n k t → n.arrivals ≡ t.arrivals
taken_arrivals n k t m = sym (ap (λ u. u.arrivals) m.left)

pub taken_queue : (n : NetworkState) (k : ℕ) (t : NetworkState) → Takes n k t → (j : ℕ) → j ≢ k → queue n j ≡ queue t j
taken_queue n k t m j ne = sym (ap (λ u. queue u j) m.left ∙ get_or-set_other n.queues k j m.rest [] ne)

pub taken_first : (n : NetworkState) (k : ℕ) (t : NetworkState) → IsShaped n → (m : Takes n k t) → queue n k ≡ m.item ∷ queue t k
taken_first n k t shaped m =
    let l : k < length n.stages = slice_get_within n.stages k m.stage m.at in
    let e : queue t k ≡ m.rest = ap (λ u. queue u k) m.left ∙ get_or-set_same n.queues k m.rest [] (omega arith) in
    m.first ∙ ap (λ items. m.item ∷ items) (sym e)

pub taken_stage : (n : NetworkState) (k : ℕ) (t : NetworkState) → Takes n k t → (j : ℕ) → j ≢ k → slice_get n.stages j ≡ slice_get t.stages j
taken_stage n k t m j ne = sym (ap (λ u. slice_get u.stages j) m.left ∙ slice_get-set_other n.stages k j (reacted m.stage m.item) ne)

pub taken_stage_at : (n : NetworkState) (k : ℕ) (t : NetworkState) → (m : Takes n k t) → slice_get t.stages k ≡ Some (reacted m.stage m.item)
taken_stage_at n k t m = ap (λ u. slice_get u.stages k) m.left ∙ slice_get-set_same n.stages k (reacted m.stage m.item)
    (slice_get_within n.stages k m.stage m.at)

-- the taken item no longer comes
pub taken_coming_at : (n : NetworkState) (k : ℕ) (t : NetworkState) → IsShaped n → (m : Takes n k t) → coming n k ≡ m.item ∷ coming t k
taken_coming_at n k t shaped m = coming_less n t k m.item (taken_arrivals n k t m) (taken_first n k t shaped m)
    (λ j h. taken_queue n k t m j (omega arith)) (λ j h. taken_stage n k t m j (omega arith))

-- and what the stage gives for it is unsent
pub taken_given : (n : NetworkState) (k : ℕ) (t : NetworkState) → IsShaped n → (m : Takes n k t)
    → to_give (slice_get n.stages k) (coming n k) ≡ to_give (slice_get t.stages k) (coming t k)
taken_given n k t shaped m =
    let rest = coming t k in
    ap (λ stage. to_give stage (coming n k)) m.at
    ∙ ap (λ items. m.stage.unsent ++ flow_from m.stage.reaction m.stage.state items) (taken_coming_at n k t shaped m)
    ∙ ap (λ unsent. unsent ++ flow_from m.stage.reaction m.stage.state (m.item ∷ rest)) m.idle
    ∙ ap (λ stage. to_give stage rest) (sym (taken_stage_at n k t m))

pub taken_coming : (n : NetworkState) (k : ℕ) (t : NetworkState) → IsShaped n → (m : Takes n k t) → (j : ℕ) → j ≢ k → coming n j ≡ coming t j
taken_coming n k t shaped m j ne =
    ⊎_elim
    (λ (l : j < k). coming_same n t j (taken_arrivals n k t m) (λ i h. taken_queue n k t m i (omega arith)) (λ i h. taken_stage n k t m i (omega arith)))
    (λ (l : k ≤ j).
    let behind : coming n (suc k) ≡ coming t (suc k) =
    ap (λ items. items ++ to_give (slice_get n.stages k) (coming n k)) (taken_queue n k t m (k + 1) (omega arith))
    ∙ ap (λ items. queue t (k + 1) ++ items) (taken_given n k t shaped m) in
    coming_from n t (suc k) j (omega arith) behind (λ i h. taken_queue n k t m i (omega arith)) (λ i h. taken_stage n k t m i (omega arith)))
    (cases_lt j k)

-- Put

pub put_queue : (cap : ℕ) (n : NetworkState) (k : ℕ) (t : NetworkState) → Puts cap n k t → (j : ℕ) → j ≢ k + 1 → queue n j ≡ queue t j
put_queue cap n k t m j ne = sym (ap (λ u. queue u j) m.left ∙ get_or-set_other n.queues (k + 1) j (queue n (k + 1) ++ m.item ∷ []) [] ne)

pub put_last : (cap : ℕ) (n : NetworkState) (k : ℕ) (t : NetworkState) → IsShaped n → (m : Puts cap n k t) → queue t (k + 1) ≡ queue n (k + 1) ++ m.item ∷ []
put_last cap n k t shaped m =
    let l : k < length n.stages = slice_get_within n.stages k m.stage m.at in
    ap (λ u. queue u (k + 1)) m.left ∙ get_or-set_same n.queues (k + 1) (queue n (k + 1) ++ m.item ∷ []) [] (omega arith)

pub put_stage : (cap : ℕ) (n : NetworkState) (k : ℕ) (t : NetworkState) → Puts cap n k t → (j : ℕ) → j ≢ k → slice_get n.stages j ≡ slice_get t.stages j
put_stage cap n k t m j ne = sym (ap (λ u. slice_get u.stages j) m.left ∙ slice_get-set_other n.stages k j (record m.stage { unsent = m.rest }) ne)

pub put_stage_at : (cap : ℕ) (n : NetworkState) (k : ℕ) (t : NetworkState) → (m : Puts cap n k t)
    → slice_get t.stages k ≡ Some (record m.stage { unsent = m.rest })
put_stage_at cap n k t m = ap (λ u. slice_get u.stages k) m.left ∙ slice_get-set_same n.stages k (record m.stage { unsent = m.rest })
    (slice_get_within n.stages k m.stage m.at)

pub put_same : (cap : ℕ) (n : NetworkState) (k : ℕ) (t : NetworkState) → Puts cap n k t → (j : ℕ) → j ≤ k → coming n j ≡ coming t j
put_same cap n k t m j l = coming_same n t j (sym (ap (λ u. u.arrivals) m.left)) (λ i h. put_queue cap n k t m i (omega arith))
    (λ i h. put_stage cap n k t m i (omega arith))

-- the item is no longer to be given
pub put_given : (cap : ℕ) (n : NetworkState) (k : ℕ) (t : NetworkState) → (m : Puts cap n k t)
    → to_give (slice_get n.stages k) (coming n k) ≡ m.item ∷ to_give (slice_get t.stages k) (coming t k)
put_given cap n k t m =
    ap (λ stage. to_give stage (coming n k)) m.at
    ∙ ap (λ items. m.stage.unsent ++ flow_from m.stage.reaction m.stage.state items) (put_same cap n k t m k (omega arith))
    ∙ ap (λ unsent. unsent ++ flow_from m.stage.reaction m.stage.state (coming t k)) m.first
    ∙ ap (λ stage. m.item ∷ to_give stage (coming t k)) (sym (put_stage_at cap n k t m))

pub put_coming : (cap : ℕ) (n : NetworkState) (k : ℕ) (t : NetworkState) → IsShaped n → (m : Puts cap n k t) → (j : ℕ) → coming n j ≡ coming t j
put_coming cap n k t shaped m j =
    ⊎_elim
    (λ (l : k < j).
    let given = to_give (slice_get t.stages k) (coming t k) in
    let behind : coming n (suc k) ≡ coming t (suc k) =
    ap (λ items. queue n (k + 1) ++ items) (put_given cap n k t m)
    ∙ pass_on (queue n (k + 1)) m.item given
    ∙ ap (λ items. items ++ given) (sym (put_last cap n k t shaped m)) in
    coming_from n t (suc k) j (omega arith) behind (λ i h. put_queue cap n k t m i (omega arith)) (λ i h. put_stage cap n k t m i (omega arith)))
    (λ (l : j ≤ k). put_same cap n k t m j l)
    (cases_lt k j)

-- Arrive

pub arrived_stages : (cap : ℕ) (n t : NetworkState) → Arrives cap n t → n.stages ≡ t.stages
arrived_stages cap n t m = sym (ap (λ u. u.stages) m.left)

pub arrived_coming : (cap : ℕ) (n t : NetworkState) → IsShaped n → (m : Arrives cap n t) → (j : ℕ) → coming n j ≡ coming t j
arrived_coming cap n t shaped m j =
    let q : queue t 0 ≡ queue n 0 ++ m.item ∷ [] = ap (λ u. queue u 0) m.left ∙ get_or-set_same n.queues 0 (queue n 0 ++ m.item ∷ []) [] (omega arith) in
    let a : t.arrivals ≡ m.rest = ap (λ u. u.arrivals) m.left in
    let here : coming n 0 ≡ coming t 0 =
    ap (λ items. queue n 0 ++ items) m.first ∙ pass_on (queue n 0) m.item m.rest
    ∙ ap (λ items. items ++ m.rest) (sym q) ∙ ap (λ items. queue t 0 ++ items) (sym a) in
    coming_from n t 0 j (omega arith) here
    (λ i h. let ne : i ≢ 0 = omega arith in sym (ap (λ u. queue u i) m.left ∙ get_or-set_other n.queues 0 i (queue n 0 ++ m.item ∷ []) [] ne))
    (λ i h. ap (λ stages. slice_get stages i) (arrived_stages cap n t m))

-- Deliver

pub delivered_stages : (n t : NetworkState) → Delivers n t → n.stages ≡ t.stages
delivered_stages n t m = sym (ap (λ u. u.stages) m.left)

pub delivered_queue : (n t : NetworkState) → Delivers n t → (j : ℕ) → j < length n.stages → queue n j ≡ queue t j
delivered_queue n t m j l = let ne : j ≢ length n.stages = omega arith in
    sym (ap (λ u. queue u j) m.left ∙ get_or-set_other n.queues (length n.stages) j m.rest [] ne)

pub delivered_coming : (n t : NetworkState) → (m : Delivers n t) → (j : ℕ) → j < length n.stages → coming n j ≡ coming t j
delivered_coming n t m j l = coming_same n t j (sym (ap (λ u. u.arrivals) m.left)) (λ i h. delivered_queue n t m i (omega arith))
    (λ i h. ap (λ stages. slice_get stages i) (delivered_stages n t m))

pub delivered_coming_last : (n t : NetworkState) → IsShaped n → (m : Delivers n t) → coming n (length n.stages) ≡ m.item ∷ coming t (length n.stages)
delivered_coming_last n t shaped m =
    let q : queue t (length n.stages) ≡ m.rest = ap (λ u. queue u (length n.stages)) m.left
    ∙ get_or-set_same n.queues (length n.stages) m.rest [] (omega arith) in
    coming_less n t (length n.stages) m.item (sym (ap (λ u. u.arrivals) m.left)) (m.first ∙ ap (λ items. m.item ∷ items) (sym q))
    (λ j h. delivered_queue n t m j h) (λ j h. ap (λ stages. slice_get stages j) (delivered_stages n t m))
