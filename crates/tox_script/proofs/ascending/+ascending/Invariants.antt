-- The values so far are sorted.
use Rattle.std.proofs.Common.{◌≡◌, true, ◌++◌, List, take}
use Rattle.toml.specs.Data.{items_are_sorted}
use Rattle.toml.specs.View.{items_view, members_view}
use Rattle.toml.proofs.Views.{Entry, values_sorted}
use Rattle.tox_script.proofs.ascending.+ascending.Given as goal

abbrev pub invariant-items_ascend-items : goal.invariant-items_ascend-items
invariant-items_ascend-items l = items_are_sorted (items_view (take l.item-index l.items)) ≡ true

abbrev pub invariant-members_ascend-members : goal.invariant-members_ascend-members
invariant-members_ascend-members l =
    (goal.iterator-members_ascend-members).can_next l._key-iterator ×
    (goal.iterator-members_ascend-members).is_finite l._key-iterator
    × (done : List Entry) × (l.members.entries ≡ done ++ l._key-iterator) × (values_sorted (members_view done) ≡ true)
