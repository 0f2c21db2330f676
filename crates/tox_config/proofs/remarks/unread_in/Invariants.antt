-- What was added, and what the objects that are left add, is what all add.
use Rattle.std.proofs.Common.{◌≡◌, ◌++◌, drop}
use Rattle.serde_json.specs.View.{items_view}
use Rattle.tox_config.specs.Remarks.{unread_in}
use Rattle.tox_config.proofs.remarks.unread_in.Given as goal

abbrev pub invariant-loop-value : goal.invariant-loop-value
invariant-loop-value l = l.unread.items ++ unread_in (items_view (drop l.value-index l.values)) ≡ unread_in (items_view l.values)
