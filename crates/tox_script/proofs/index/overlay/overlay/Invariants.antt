-- Some steps are laid, and one fewer is left at each turn.
use Rattle.std.proofs.Common.{◌+◌, length}
use Rattle.tox_script.proofs.Overlays.{IsLaid}
use Rattle.tox_script.proofs.index.overlay.overlay.Given as goal

abbrev pub invariant-loop-step : goal.invariant-loop-step
invariant-loop-step l = IsLaid l.upper l.lower l.steps.items l.above l.below

abbrev pub decreases-loop-step : goal.decreases-loop-step
decreases-loop-step l = length l.above + length l.below
