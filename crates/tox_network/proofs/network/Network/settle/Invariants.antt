-- Moves that follow the list were made, and as many are off the list; one move less is left each time.
use Rattle.std.proofs.Common.{◌≡◌, drop, length}
use Rattle.std.specs.Slice.Iter.{iter_rest}
use Rattle.tox_network.specs.NetworkView.{state_of}
use Rattle.tox_network.specs.runs.EventualDelivery.{moves_left}
use Rattle.tox_network.specs.runs.Settling.{Settles}
use Rattle.tox_network.proofs.network.Network.settle.Given as goal

abbrev pub invariant-loop-other : goal.invariant-loop-other
invariant-loop-other l = (s : Settles l.moves l.fn.self l.self) × (iter_rest l.listed ≡ drop (length s.made) l.moves)

abbrev pub decreases-loop-other : goal.decreases-loop-other
decreases-loop-other l = moves_left (state_of l.self)
