-- Nothing was found at the stages that were looked at.
use Rattle.std.proofs.Common.{◌≡◌}
use Rattle.tox_network.specs.NetworkInside.{network_view}
use Rattle.tox_network.specs.NetworkView.{state_of}
use Rattle.tox_network.specs.Possible.{possible_before}
use Rattle.tox_network.proofs.network.Network.possible_before.Given as goal

abbrev pub invariant-loop-place : goal.invariant-loop-place
invariant-loop-place l = possible_before (state_of (network_view l.self-inside)) l.place ≡ possible_before (state_of (network_view l.self-inside)) l.count
