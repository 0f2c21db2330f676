-- The instant goes down the list of operations.
use Rattle.std.proofs.Common.{length}
use Rattle.tox_sockets.proofs.reset_due.+due_behind.Given as goal

abbrev pub decreases-due_behind : goal.decreases-due_behind
decreases-due_behind l = length l.ops.now
