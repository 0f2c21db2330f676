-- What a contract sees of a `Waiting`, and what its fields keep.
use Rattle.std.specs.Prelude.{◌≤◌, ◌++◌, ◌∷◌, [], List, Bool, true, false, drop, length}
use Rattle.tox_time.specs.declared.streams.item.Item.{Item}
use Rattle.tox_time.specs.declared.streams.item.Item.TheVariants.{Quiet}
use Rattle.tox_time.specs.streams.Arrivals.{arrival_list}
use Rattle.tox_network.specs.declared.waiting.Waiting.TheInside.{Inside}
use Rattle.tox_network.specs.Arriving.{Arriving}

-- the `Quiet` that isn't stored, while it waits
abbrev pub quiet_item : Bool → List Item
quiet_item true = Quiet ∷ []
quiet_item false = []

abbrev pub arriving : Inside → Arriving
arriving w =
    record {
      arrived = arrival_list w.items.now;
      waiting = drop w.entered w.items.now ++ quiet_item w.quiet;
    }

abbrev pub KeepsWaiting : Inside → Type 0
KeepsWaiting w = w.entered ≤ length w.items.now
