-- The steps so far are below.
use Rattle.std.proofs.Common.{◌≡◌, drop}
use Rattle.tox_draw.specs.Axes.{first_from}
use Rattle.tox_draw.proofs.axis.first_from.Given as goal

abbrev pub invariant-loop-step : goal.invariant-loop-step
invariant-loop-step l = first_from l.steps l.least ≡ first_from (drop l.step-index l.steps) l.least
