-- The line feed is cut off.
use Rattle.std.proofs.Common.{◌≡◌, ◌<◌, ◌+◌, ◌++◌, ◌∷◌, List, ℕ, length, take, slice_range, get_or, ap, sym, ◌∙◌, append-nil, arith, subst}
use Rattle.std.proofs.lemmas.Bool.Decides.{nat_tests}
use Rattle.tox_log.specs.Numbers.{KeepsText, Lacks}
use Rattle.tox_log.specs.Reading.{waiting}
use Rattle.tox_log.proofs.Blocks.{lacks-before, lacks-nowhere, parts-at, range-rest, range-within, range-none}
use Rattle.tox_log.proofs.line_reader.LineReader.take.Goals as goal

pub returns-in-Some : goal.returns-in-Some
returns-in-Some c =
    let lines = c.args.self.now in
    let block : List ℕ = c.deref.result.now in
    let w : List ℕ = slice_range block lines.start lines.stop in
    let place : ℕ = c.in-Some.place in
    let below : place < length w = c.in-Some.ensures.0.high in
    let feed : get_or w place 0 ≡ 10 = grind (arith, nat_tests, c.in-Some.ensures.1) in
    let given = c.deref.ensures.value in
    let rest = range-rest block lines.start lines.stop (place + 1) (range-within block lines.start lines.stop place below) in record {
      part = take place w;
      given = ap (λ b. slice_range b lines.start lines.stop) (sym given) ∙ parts-at w place 10 below feed
          ∙ ap (λ rest. take place w ++ 10 ∷ rest) (sym rest ∙ ap (λ b. slice_range b (lines.start + (place + 1)) lines.stop) given);
      line = c.add.ensures;
      unended = lacks-before 10 w place (omega (arith, below)) c.in-Some.ensures.0.before;
    }

pub returns-in-None : goal.returns-in-None
returns-in-None c =
    let lines = c.args.self.now in record {
      part = waiting lines;
      given = sym (append-nil (waiting lines)) ∙ ap (λ rest. waiting lines ++ rest) (sym (range-none lines.block.items lines.stop));
      line = subst (λ b. (text : List ℕ) → KeepsText lines.line.items lines.long text
          → KeepsText c.add-in-None.new.line.items c.add-in-None.new.long (text ++ slice_range b lines.start lines.stop)) c.deref.ensures.value
          c.add-in-None.ensures;
      unended = subst (λ b. Lacks 10 (slice_range b lines.start lines.stop)) c.deref.ensures.value
          (lacks-nowhere 10 (slice_range c.deref.result.now lines.start lines.stop) c.in-None.ensures);
    }
