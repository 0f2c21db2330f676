-- Another letter stands as it is.
use Rattle.std.proofs.Common.{arith, sym}
use Rattle.std.proofs.Output.{has_written_of_eq}
use Rattle.tox_draw.proofs.pages.PlainLetters.{letter_unchanged}
use Rattle.tox_draw.proofs.pages.escaping.write_letter.Goals as goal

pub returns : goal.returns
returns g c = λ plain done.
    has_written_of_eq _ _ _ _ _ (sym (letter_unchanged c.args.letter (record {
      ampersand = grind (arith, c.if-letter-eq38.false);
      less = grind (arith, c.if-letter-eq60.false);
      greater = grind (arith, c.if-letter-eq62.false);
      quote = grind (arith, c.if-letter-eq34.false);
    }))) (c.write_char.ensures.writes plain done)
