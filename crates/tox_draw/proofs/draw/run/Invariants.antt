-- The runner waits for the next line.
use Rattle.std.proofs.Common.{◌≡◌, true, option_map}
use Rattle.tox_text.specs.arrivals.Lines.{size_left}
use Rattle.tox_draw.proofs.draw.run.Given as goal

abbrev pub invariant-loop-left : goal.invariant-loop-left
invariant-loop-left l = l.runner.idle ≡ true

abbrev pub decreases-loop-left : goal.decreases-loop-left
decreases-loop-left l = size_left (option_map (λ rest. rest.now) l.left)
