-- The characters so far have passed.
use Rattle.std.proofs.Common.{Ok, ◌≡◌, ℕ, List, ◌++◌, flat_map, chars, IsUtf8}
use Rattle.std.specs.Str.Iter.{chars_rest}
use Rattle.tox_text.specs.Names.{visible}
use Rattle.tox_text.specs.Printing.{Prints}
use Rattle.tox_text.proofs.names.print_name.Given as goal

abbrev pub invariant-loop-letter : goal.invariant-loop-letter
invariant-loop-letter g l = record {
  text : IsUtf8 (chars_rest l.letter-iterator);
  passed : (done : List ℕ)
      × (chars l.name ≡ done ++ chars (chars_rest l.letter-iterator))
      × Prints g.W.Sink (Ok tt) l.fn.printer l.printer (flat_map visible done);
}
