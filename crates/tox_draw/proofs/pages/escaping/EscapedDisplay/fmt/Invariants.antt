-- The letters so far were written.
use Rattle.std.proofs.Common.{◌≡◌, ◌++◌, ℕ, List}
use Rattle.std.specs.Fmt.{HasWritten, IsPlainFormatter}
use Rattle.std.specs.Str.Iter.{chars_rest}
use Rattle.tox_draw.specs.pages.Escaping.{html}
use Rattle.tox_draw.proofs.pages.escaping.EscapedDisplay.fmt.Given as goal

abbrev pub invariant-loop-letter : goal.invariant-loop-letter
invariant-loop-letter g l =
    (goal.iterator-loop-letter g).can_next l.letter-iterator
    × (goal.iterator-loop-letter g).is_finite l.letter-iterator
    × (IsPlainFormatter l.initial.f → (first : List ℕ)
    × HasWritten g.W.Write.write_str_gives l.initial.f first l.f
    × (first ++ html (chars_rest l.letter-iterator) ≡ html l.self.0.now))
