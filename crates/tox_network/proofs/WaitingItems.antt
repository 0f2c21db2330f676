-- Arrivals of which some are in.
use Rattle.std.proofs.Common.{◌≡◌, ℕ, ◌+◌, ◌≤◌, Bool, List, [], ◌∷◌, ◌++◌, drop, not, length, refl, ◌∙◌, ap, arith, length-append, length-drop}
use Rattle.std.specs.List.{list_all}
use Rattle.std.proofs.lemmas.List.{append-nil}
use Rattle.tox_time.specs.declared.streams.item.Item.{Item}
use Rattle.tox_time.specs.declared.streams.item.Item.TheVariants.{Chunk, Closed, Reset, Quiet}
use Rattle.tox_time.specs.streams.Arrivals.{arrival_list}
use Rattle.tox_time.specs.streams.Stream.{arrived, is_final, span_len}
use Rattle.tox_network.specs.Arriving.{Arriving}
use Rattle.tox_network.specs.WaitingInside.{quiet_item}

-- the arrival list is what is stored, and a `Quiet` if no item there is a final
pub stored_and_quiet : (items : List Item) → items ++ quiet_item (list_all (λ item. not (is_final item)) items) ≡ arrival_list items
stored_and_quiet [] = refl
stored_and_quiet (Chunk span t ∷ items) = ap (λ others. Chunk span t ∷ others) (stored_and_quiet items)
stored_and_quiet (Closed t ∷ items) = append-nil (Closed t ∷ items)
stored_and_quiet (Reset t ∷ items) = append-nil (Reset t ∷ items)
stored_and_quiet (Quiet ∷ items) = append-nil (Quiet ∷ items)

-- at first all arrivals wait
pub all_wait : (items stored : List Item) (quiet : Bool) → items ≡ stored → quiet ≡ list_all (λ item. not (is_final item)) items
    → ◌≡◌ {A = Arriving} (record { arrived = arrival_list items; waiting = items ++ quiet_item quiet })
    (record { arrived = arrival_list stored; waiting = arrival_list stored })
all_wait items stored quiet same reported =
    let with : List Item → Arriving = λ waiting. record { arrived = arrival_list items; waiting = waiting } in
    ap (λ waits. with (items ++ quiet_item waits)) reported ∙ ap with (stored_and_quiet items)
    ∙ ap (λ list. record { arrived = arrival_list list; waiting = arrival_list list }) same

-- where nothing waits, all stored items are in
pub all_entered : (items : List Item) (entered : ℕ) (quiet : Bool) → entered ≤ length items → drop entered items ++ quiet_item quiet ≡ []
    → entered ≡ length items
all_entered items entered quiet within none = omega (arith, ap length none, length-append (drop entered items) (quiet_item quiet), length-drop entered items)

pub arrived-arrival_list : (items : List Item) → arrived (arrival_list items) ≡ arrived items
arrived-arrival_list [] = refl
arrived-arrival_list (Chunk span t ∷ items) = ap (λ count. span_len span + count) (arrived-arrival_list items)
arrived-arrival_list (Closed t ∷ items) = refl
arrived-arrival_list (Reset t ∷ items) = refl
arrived-arrival_list (Quiet ∷ items) = refl
