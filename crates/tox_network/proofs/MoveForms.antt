-- What a possible move finds and what it leaves, and which moves are possible.
use Rattle.std.proofs.Common.{ℕ, ◌+◌, ◌<◌, ◌≤◌, ◌≡◌, List, [], ◌∷◌, ◌++◌, Option, Some, None, length, refl, sym, ◌∙◌, ap, Bool, true, false, cond}
use Rattle.std.specs.Prelude.{nat_lt, slice_set}
use Rattle.std.specs.Option.{option_and_then}
use Rattle.std.specs.List.{slice_get}
use Rattle.std.proofs.lemmas.Option.{none-some, same_Some}
use Rattle.std.proofs.lemmas.Bool.{ltb-true, lt-ltb, le-ltb}
use Rattle.tox_time.specs.declared.streams.item.Item.{Item}
use Rattle.tox_network.specs.NetworkState.{NetworkState, StageState, queue}
use Rattle.tox_network.specs.Moves.{with_queue, arrive, reacted, take_first, take_at, put_first, put_at, deliver}

pub record Arrives (cap : ℕ) (n t : NetworkState) : Type 0 where
  pub item : Item
  pub rest : List Item
  pub first : n.arrivals ≡ item ∷ rest
  pub room : length (queue n 0) < cap
  pub left : t ≡ record n { arrivals = rest; queues = with_queue n 0 (queue n 0 ++ item ∷ []) }

pub record Takes (n : NetworkState) (k : ℕ) (t : NetworkState) : Type 0 where
  pub stage : StageState
  pub item : Item
  pub rest : List Item
  pub at : slice_get n.stages k ≡ Some stage
  pub idle : stage.unsent ≡ []
  pub first : queue n k ≡ item ∷ rest
  pub left : t ≡ record n { queues = with_queue n k rest; stages = slice_set n.stages k (reacted stage item) }

pub record Puts (cap : ℕ) (n : NetworkState) (k : ℕ) (t : NetworkState) : Type 0 where
  pub stage : StageState
  pub item : Item
  pub rest : List Item
  pub at : slice_get n.stages k ≡ Some stage
  pub first : stage.unsent ≡ item ∷ rest
  pub room : length (queue n (k + 1)) < cap
  pub left : t ≡ record n { queues = with_queue n (k + 1) (queue n (k + 1) ++ item ∷ []); stages = slice_set n.stages k (record stage { unsent = rest }) }

pub record Delivers (n t : NetworkState) : Type 0 where
  pub item : Item
  pub rest : List Item
  pub first : queue n (length n.stages) ≡ item ∷ rest
  pub left : t ≡ record n { queues = with_queue n (length n.stages) rest; delivered = n.delivered ++ item ∷ [] }

-- where an item entered, there was room
entered_room : {B T : Type 0} (room : Bool) (queues : B) (f : B → T) (t : T) → option_and_then (λ q. Some (f q)) (cond room (Some queues) None) ≡ Some t
    → (room ≡ true) × (f queues ≡ t)
entered_room true queues f t h = (refl, same_Some _ _ h)
entered_room false queues f t h = absurd (none-some t h)

arrives_from : (cap : ℕ) (n t : NetworkState) (items : List Item) → n.arrivals ≡ items → arrive cap n items ≡ Some t → Arrives cap n t
arrives_from cap n t [] e h = absurd (none-some t h)
arrives_from cap n t (item ∷ rest) e h =
    let r = entered_room {B = List (List Item)} {T = NetworkState} (nat_lt (length (queue n 0)) cap) (with_queue n 0 (queue n 0 ++ item ∷ []))
    (λ queues. record n { arrivals = rest; queues = queues }) t h in
    record { item = item; rest = rest; first = e; room = ltb-true _ _ r.0; left = sym r.1 }

pub arrives : (cap : ℕ) (n t : NetworkState) → arrive cap n n.arrivals ≡ Some t → Arrives cap n t
arrives cap n t h = arrives_from cap n t n.arrivals refl h

takes_first : (n : NetworkState) (k : ℕ) (t : NetworkState) (stage : StageState) (unsent items : List Item) → slice_get n.stages k ≡ Some stage
    → stage.unsent ≡ unsent → queue n k ≡ items → take_first n k stage unsent items ≡ Some t → Takes n k t
takes_first n k t stage [] [] at idle first h = absurd (none-some t h)
takes_first n k t stage [] (item ∷ rest) at idle first h = record {
  stage = stage;
  item = item;
  rest = rest;
  at = at;
  idle = idle;
  first = first;
  left =
      sym (same_Some _ _ h);
}
takes_first n k t stage (given ∷ more) items at idle first h = absurd (none-some t h)

takes_from : (n : NetworkState) (k : ℕ) (t : NetworkState) (stage : Option StageState) → slice_get n.stages k ≡ stage → take_at n k stage ≡ Some t → Takes n k t
takes_from n k t None at h = absurd (none-some t h)
takes_from n k t (Some stage) at h = takes_first n k t stage stage.unsent (queue n k) at refl refl h

pub takes : (n : NetworkState) (k : ℕ) (t : NetworkState) → take_at n k (slice_get n.stages k) ≡ Some t → Takes n k t
takes n k t h = takes_from n k t (slice_get n.stages k) refl h

puts_first : (cap : ℕ) (n : NetworkState) (k : ℕ) (t : NetworkState) (stage : StageState) (unsent : List Item) → slice_get n.stages k ≡ Some stage
    → stage.unsent ≡ unsent → put_first cap n k stage unsent ≡ Some t → Puts cap n k t
puts_first cap n k t stage [] at first h = absurd (none-some t h)
puts_first cap n k t stage (item ∷ rest) at first h =
    let r = entered_room {B = List (List Item)} {T = NetworkState} (nat_lt (length (queue n (k + 1))) cap) (with_queue n (k + 1) (queue n (k + 1) ++ item ∷ []))
    (λ queues. record n { queues = queues; stages = slice_set n.stages k (record stage { unsent = rest }) }) t h in
    record { stage = stage; item = item; rest = rest; at = at; first = first; room = ltb-true _ _ r.0; left = sym r.1 }

puts_from : (cap : ℕ) (n : NetworkState) (k : ℕ) (t : NetworkState) (stage : Option StageState) → slice_get n.stages k ≡ stage → put_at cap n k stage ≡ Some t
    → Puts cap n k t
puts_from cap n k t None at h = absurd (none-some t h)
puts_from cap n k t (Some stage) at h = puts_first cap n k t stage stage.unsent at refl h

pub puts : (cap : ℕ) (n : NetworkState) (k : ℕ) (t : NetworkState) → put_at cap n k (slice_get n.stages k) ≡ Some t → Puts cap n k t
puts cap n k t h = puts_from cap n k t (slice_get n.stages k) refl h

delivers_from : (n t : NetworkState) (items : List Item) → queue n (length n.stages) ≡ items → deliver n items ≡ Some t → Delivers n t
delivers_from n t [] e h = absurd (none-some t h)
delivers_from n t (item ∷ rest) e h = record { item = item; rest = rest; first = e; left = sym (same_Some _ _ h) }

pub delivers : (n t : NetworkState) → deliver n (queue n (length n.stages)) ≡ Some t → Delivers n t
delivers n t h = delivers_from n t (queue n (length n.stages)) refl h

-- A move that finds what it needs is possible.

pub arrive_is : (cap : ℕ) (n : NetworkState) (item : Item) (rest : List Item) → n.arrivals ≡ item ∷ rest → length (queue n 0) < cap
    → arrive cap n n.arrivals ≡ Some (record n { arrivals = rest; queues = with_queue n 0 (queue n 0 ++ item ∷ []) })
arrive_is cap n item rest first room =
    let go : List (List Item) → Option NetworkState = λ queues. Some (record n { arrivals = rest; queues = queues }) in
    ap (arrive cap n) first ∙ ap (λ b. option_and_then go (cond b (Some (with_queue n 0 (queue n 0 ++ item ∷ []))) None)) (lt-ltb _ _ room)

pub take_is : (n : NetworkState) (k : ℕ) (stage : StageState) (item : Item) (rest : List Item) → slice_get n.stages k ≡ Some stage → stage.unsent ≡ []
    → queue n k ≡ item ∷ rest
    → take_at n k (slice_get n.stages k) ≡ Some (record n { queues = with_queue n k rest; stages = slice_set n.stages k (reacted stage item) })
take_is n k stage item rest at idle first =
    ap (take_at n k) at ∙ ap (λ unsent. take_first n k stage unsent (queue n k)) idle ∙ ap (take_first n k stage []) first

pub put_is : (cap : ℕ) (n : NetworkState) (k : ℕ) (stage : StageState) (item : Item) (rest : List Item) → slice_get n.stages k ≡ Some stage
    → stage.unsent ≡ item ∷ rest → length (queue n (k + 1)) < cap
    → put_at cap n k (slice_get n.stages k) ≡ Some (record n {
      queues = with_queue n (k + 1) (queue n (k + 1) ++ item ∷ []);
      stages =
          slice_set n.stages k (record stage { unsent = rest });
    })
put_is cap n k stage item rest at first room =
    let go : List (List Item) → Option NetworkState = λ queues. Some (record n
    { queues = queues; stages = slice_set n.stages k (record stage { unsent = rest }) }) in
    ap (put_at cap n k) at ∙ ap (put_first cap n k stage) first ∙ ap (λ b.
    option_and_then go (cond b (Some (with_queue n (k + 1) (queue n (k + 1) ++ item ∷ []))) None)) (lt-ltb _ _ room)

pub deliver_is : (n : NetworkState) (item : Item) (rest : List Item) → queue n (length n.stages) ≡ item ∷ rest
    → deliver n (queue n (length n.stages)) ≡ Some (record n { queues = with_queue n (length n.stages) rest; delivered = n.delivered ++ item ∷ [] })
deliver_is n item rest first = ap (deliver n) first

-- And one that does not find it is not.

put_first_full : (cap : ℕ) (n : NetworkState) (k : ℕ) (stage : StageState) (unsent : List Item) → cap ≤ length (queue n (k + 1))
    → put_first cap n k stage unsent ≡ None
put_first_full cap n k stage [] full = refl
put_first_full cap n k stage (item ∷ rest) full =
    let go : List (List Item) → Option NetworkState = λ queues. Some (record n
    { queues = queues; stages = slice_set n.stages k (record stage { unsent = rest }) }) in
    ap (λ b. option_and_then go (cond b (Some (with_queue n (k + 1) (queue n (k + 1) ++ item ∷ []))) None)) (le-ltb _ _ full)

pub put_full : (cap : ℕ) (n : NetworkState) (k : ℕ) (stage : Option StageState) → cap ≤ length (queue n (k + 1)) → put_at cap n k stage ≡ None
put_full cap n k None full = refl
put_full cap n k (Some stage) full = put_first_full cap n k stage stage.unsent full
