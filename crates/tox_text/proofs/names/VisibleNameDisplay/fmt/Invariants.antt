-- The characters so far are displayed.
use Rattle.std.proofs.Common.{◌≡◌, ℕ, List, ◌++◌, IsUtf8}
use Rattle.std.specs.Fmt.{HasWritten, IsPlainFormatter}
use Rattle.std.specs.Str.Iter.{chars_rest}
use Rattle.tox_text.specs.Names.{visible_name}
use Rattle.tox_text.proofs.names.VisibleNameDisplay.fmt.Given as goal

abbrev pub invariant-loop-letter : goal.invariant-loop-letter
invariant-loop-letter g l =
    (goal.iterator-loop-letter g).can_next l.letter-iterator
    × (goal.iterator-loop-letter g).is_finite l.letter-iterator
    × IsUtf8 (chars_rest l.letter-iterator)
    × (IsPlainFormatter l.initial.f → (done : List ℕ) × HasWritten g.W.Write.write_str_gives l.initial.f done l.f
    × (done ++ visible_name (chars_rest l.letter-iterator) ≡ visible_name l.fn.self.0.now))
