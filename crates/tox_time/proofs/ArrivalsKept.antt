-- An `Arrivals` after one more item is still an arrival list, with what its fields count.
use Rattle.std.proofs.Common.{◌≡◌, ◌+◌, ◌≤◌, ◌^◌, false, List, [], ◌∷◌, ◌++◌, ap, sym, ◌∙◌, zero-add}
use Rattle.tox_time.specs.declared.streams.item.Item.{Item}
use Rattle.tox_time.specs.declared.streams.arrivals.Arrivals.TheInside.{Inside}
use Rattle.tox_time.specs.streams.ArrivalsInside.{KeepsArrivals}
use Rattle.tox_time.specs.streams.Stream.{IsStreamFrom, HasReset, IsArrivalList, arrived, latest_from, has_final}
use Rattle.tox_time.specs.streams.Arrivals.{arrival_list}
use Rattle.tox_time.proofs.StreamLemmas.{arrived-append, latest_from-append, has_final-append, arrival_list-append, HasReset-append, IsStreamFrom-append}

-- an arrival list goes on as one behind unended items
pub IsArrivalList-append : (items rest : List Item) → has_final items ≡ false → IsArrivalList (arrival_list items)
    → IsStreamFrom (arrived items) (latest_from 0 items) (arrival_list rest) → (HasReset (arrival_list rest) → ⊥) → IsArrivalList (arrival_list (items ++ rest))
IsArrivalList-append items rest unended list goes_on no_reset =
    rw arrival_list-append (
      IsStreamFrom-append 0 0 items (arrival_list rest) unended list.0 (rw zero-add goes_on),
      λ reset. no_reset (HasReset-append items (arrival_list rest) unended reset),
    )

pub KeepsArrivals-push : (a b : Inside) (item : Item) → KeepsArrivals a → a.so_far.ended ≡ false
    → IsStreamFrom a.so_far.position a.so_far.latest (arrival_list (item ∷ [])) → (HasReset (arrival_list (item ∷ [])) → ⊥)
    → b.items.items ≡ a.items.items ++ item ∷ [] → b.so_far.position ≡ a.so_far.position + arrived (item ∷ []) → b.so_far.position ≤ 2 ^ 40
    → b.so_far.latest ≡ latest_from a.so_far.latest (item ∷ []) → b.so_far.ended ≡ has_final (item ∷ []) → KeepsArrivals b
KeepsArrivals-push a b item kept unended goes_on no_reset items bytes most latest ended =
    let before : has_final a.items.items ≡ false = cc kept.end_seen in
    record {
      list = rw items (IsArrivalList-append a.items.items (item ∷ []) before kept.list (rw (← kept.bytes_sum, ← kept.latest_instant) goes_on) no_reset);
      bytes_sum = rw items (bytes ∙ ap (λ n. n + arrived (item ∷ [])) kept.bytes_sum ∙ sym (arrived-append a.items.items (item ∷ [])));
      most = most;
      latest_instant = rw items (latest ∙ ap (λ t. latest_from t (item ∷ [])) kept.latest_instant ∙ sym (latest_from-append 0 a.items.items (item ∷ [])));
      end_seen = rw items (ended ∙ sym (has_final-append a.items.items (item ∷ []) before));
    }
