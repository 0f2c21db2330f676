-- The stages so far are those of the applied toxics so far.
use Rattle.std.proofs.Common.{◌≡◌, take, map}
use Rattle.tox_network.specs.NetworkView.{placed_stage}
use Rattle.tox_network.proofs.stages.first_stages.Given as goal

abbrev pub invariant-loop-placed : goal.invariant-loop-placed
invariant-loop-placed l = l.stages.items ≡ map (placed_stage (record { lanes = l.lanes; words = l.words })) (take l.placed-index l.placed-items)
