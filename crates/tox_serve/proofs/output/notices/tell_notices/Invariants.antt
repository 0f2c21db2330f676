-- Between two notices nothing is taken.
use Rattle.std.proofs.Common.{◌≡◌}
use Rattle.tox_serve.specs.output.LineQueue.{no_lines}
use Rattle.tox_serve.proofs.output.notices.tell_notices.Given as goal

abbrev pub invariant-loop : goal.invariant-loop
invariant-loop g l = l.taken ≡ no_lines
