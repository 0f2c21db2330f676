-- One letter behind the other.
use Rattle.std.proofs.Common.{◌++◌, ◌∙◌, ◌≡◌, ℕ, List, [], ap, sym, append_assoc, append-nil, rules}
use Rattle.std.proofs.Output.{has_written_append, has_written_of_eq}
use Rattle.std.proofs.lemmas.Grind.{flat_map-append}
use Rattle.std.proofs.lemmas.List.{nil_from_length}
use Rattle.std.specs.Str.Iter.{chars_rest}
use Rattle.std.specs.Char.{encode_utf8}
use Rattle.tox_draw.specs.pages.Escaping.{html, html_byte}
use Rattle.tox_draw.proofs.pages.escaping.EscapedDisplay.fmt.Goals as goal

pub loop-letter-init : goal.loop-letter-init
loop-letter-init g c = (search rules, search rules, λ plain. ([], search rules, search rules))

pub loop-letter-preserved : goal.loop-letter-preserved
loop-letter-preserved g c = (
  tt,
  tt,
  λ plain.
      let so_far = c.loop-letter.invariant.2 plain in
      let letter = encode_utf8 c.in-Some.letter in
      let rest = chars_rest c.next.new.self in
      let more : html (chars_rest c.loop-letter.letter-iterator) ≡ html letter ++ html rest =
      ap html c.in-Some.ensures.steps.0 ∙ flat_map-append html_byte letter rest in (
        so_far.0 ++ html letter,
        has_written_append _ _ _ _ _ _ so_far.1 (search rules),
        append_assoc so_far.0 (html letter) (html rest) ∙ ap (λ (t : List ℕ). so_far.0 ++ t) (sym more) ∙ so_far.2,
      ),
)

pub returns-clause-writes : goal.returns-clause-writes
returns-clause-writes g c = λ plain _.
    let so_far = c.loop-letter.invariant.2 plain in
    let none = nil_from_length _ c.in-None.ensures.steps.0.0 in
    has_written_of_eq _ _ _ _ _ (sym (append-nil so_far.0) ∙ ap (λ (t : List ℕ). so_far.0 ++ html t) (sym none) ∙ so_far.2) so_far.1
