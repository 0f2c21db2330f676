-- The name stands nowhere before the rest.
use Rattle.std.proofs.Common.{◌≡◌, length}
use Rattle.tox_serve.specs.Signals.{bytes_behind}
use Rattle.tox_serve.proofs.signals.bytes_behind.Given as goal

abbrev pub invariant-loop-next : goal.invariant-loop-next
invariant-loop-next l = bytes_behind l.name l.text ≡ bytes_behind l.name l.rest

abbrev pub decreases-loop-next : goal.decreases-loop-next
decreases-loop-next l = length l.rest
