-- The lines that are left leave from here what all lines leave, and the lines so far are short.
use Rattle.std.proofs.Common.{◌≡◌, ◌+◌, ◌≤◌, ℕ, max, length, option_map}
use Rattle.tox_text.specs.arrivals.ArrivalsText.{Arrived, arrivals_of, lines_of, after_lines}
use Rattle.tox_text.specs.arrivals.Checked.{AreShort, half_longest}
use Rattle.tox_text.specs.arrivals.Counting.{Counts}
use Rattle.tox_text.specs.arrivals.Lines.{lines_left, size_left}
use Rattle.tox_text.proofs.arrivals.check.check_arrivals.Given as goal

abbrev pub invariant-loop-left : goal.invariant-loop-left
invariant-loop-left l = record {
  few : l.number + size_left (option_map (λ rest. rest.now) l.left) ≤ length l.text + 1;
  before : Arrived;
  counts : Counts l.so_far before;
  rest : after_lines (l.number + 1) (lines_left (option_map (λ rest. rest.now) l.left)) before ≡ arrivals_of l.text;
  short : (most : ℕ) → l.longest ≤ most → AreShort most (lines_left (option_map (λ rest. rest.now) l.left)) → AreShort most (lines_of l.text);
  longest : max l.longest (half_longest (lines_left (option_map (λ rest. rest.now) l.left))) ≡ half_longest (lines_of l.text);
}

abbrev pub decreases-loop-left : goal.decreases-loop-left
decreases-loop-left l = size_left (option_map (λ rest. rest.now) l.left)
