-- The items of the first places.
use Rattle.std.proofs.Common.{◌≡◌, ◌≤◌, flat_map, length, take}
use Rattle.std.specs.List.{enumerate_from}
use Rattle.tox_check.specs.forecast.Objects.{place_item}
use Rattle.tox_check.proofs.forecast.object.place_items.Given as goal

abbrev pub invariant-loop-place : goal.invariant-loop-place
invariant-loop-place l = record {
  few : length l.items.items ≤ l.place;
  inside : l.place ≤ length l.flags;
  made : l.items.items ≡ flat_map (λ placed. place_item placed.0 placed.1) (take l.place (enumerate_from 0 l.flags));
}
