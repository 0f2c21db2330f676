-- The lines that are left add the items that are not listed yet.
use Rattle.std.proofs.Common.{◌≡◌, ℕ, Ok, option_map}
use Rattle.tox_text.specs.arrivals.ArrivalsText.{Arrived, arrivals_of, after_lines}
use Rattle.tox_text.specs.arrivals.Lines.{lines_left, size_left}
use Rattle.tox_text.proofs.arrivals.list.list_arrivals.Given as goal

abbrev pub invariant-loop-left : goal.invariant-loop-left
invariant-loop-left l = record {
  arrived : Arrived;
  spelled : arrivals_of l.text ≡ Ok arrived;
  number : ℕ;
  before : Arrived;
  rest : after_lines number (lines_left (option_map (λ rest. rest.now) l.left)) before ≡ Ok arrived;
  items : l.arrivals ≡ before.items;
}

abbrev pub decreases-loop-left : goal.decreases-loop-left
decreases-loop-left l = size_left (option_map (λ rest. rest.now) l.left)
