-- What the fields of an `Arrivals` keep.
use Rattle.std.specs.Prelude.{◌≡◌, ◌≤◌, ◌^◌}
use Rattle.tox_time.specs.declared.streams.arrivals.Arrivals.TheInside.{Inside}
use Rattle.tox_time.specs.streams.Stream.{IsArrivalList, arrived, latest, has_final}
use Rattle.tox_time.specs.streams.Arrivals.{arrival_list}

-- an arrival list of at most 2^40 bytes, with its number of bytes, its last instant and whether it ended
pub record KeepsArrivals (a : Inside) : Type 0 where
  pub list : IsArrivalList (arrival_list a.items.items)
  pub bytes_sum : a.so_far.position ≡ arrived a.items.items
  pub most : a.so_far.position ≤ 2 ^ 40
  pub latest_instant : a.so_far.latest ≡ latest a.items.items
  pub end_seen : a.so_far.ended ≡ has_final a.items.items
