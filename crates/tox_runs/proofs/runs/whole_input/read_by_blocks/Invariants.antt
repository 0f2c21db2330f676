-- What was read so far.
use Rattle.std.proofs.Common.{◌≡◌, ◌≤◌, ◌-◌, ◌+◌, false, length}
use Rattle.std.specs.Io.KnownBytes.{prepend_known}
use Rattle.tox_runs.specs.declared.runs.whole_input.TheConstants.{MAX_INPUT}
use Rattle.tox_runs.proofs.runs.whole_input.read_by_blocks.Given as goal

abbrev pub invariant-loop-text : goal.invariant-loop-text
invariant-loop-text g l = record {
  working : g.R.Source.failed l.reader ≡ false;
  short : length l.text.items ≤ MAX_INPUT + 1;
  given : g.R.Source.remaining l.fn.reader ≡ prepend_known l.text.items (g.R.Source.remaining l.reader);
}

abbrev pub decreases-loop-text : goal.decreases-loop-text
decreases-loop-text g l = (MAX_INPUT + 1) - length l.text.items
