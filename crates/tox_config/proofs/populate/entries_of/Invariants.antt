-- The entries so far and the values that are left give what all values give.
use Rattle.std.proofs.Common.{◌≡◌, drop, map}
use Rattle.serde_json.specs.View.{items_view}
use Rattle.tox_config.specs.LentProxy.{lent_view}
use Rattle.tox_config.specs.Populate.{front_of, populated}
use Rattle.tox_config.proofs.Turns.{entries_from}
use Rattle.tox_config.proofs.populate.entries_of.Given as goal

abbrev pub invariant-loop-place : goal.invariant-loop-place
invariant-loop-place l =
    entries_from l.place (items_view (drop l.place l.values)) (map lent_view l.entries.items) ≡ populated (front_of 0 (items_view l.values))
