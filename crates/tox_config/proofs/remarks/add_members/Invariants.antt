-- What was added, and what the members that are left add, is what all add.
use Rattle.std.proofs.Common.{◌≡◌, ◌++◌}
use Rattle.serde_json.specs.View.{members_view}
use Rattle.tox_config.specs.Remarks.{unread_among}
use Rattle.tox_config.proofs.remarks.add_members.Given as goal

abbrev pub invariant-loop-key : goal.invariant-loop-key
invariant-loop-key l =
    l.unread.items ++ unread_among l.proxy (members_view l.key-iterator)
    ≡ l.fn.unread.items ++ unread_among l.proxy (members_view l.members.entries)
