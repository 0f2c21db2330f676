-- The writer works.
use Rattle.std.proofs.Common.{◌≡◌, false}
use Rattle.toxi.proofs.warnings.write_objects.Given as goal

abbrev pub invariant-loop-line : goal.invariant-loop-line
invariant-loop-line g l = g.W.Sink.failed l.writer ≡ false
