-- One character more is displayed.
use Rattle.std.proofs.Common.{ℕ, List, [], ◌++◌, flat_map, sym, ap, ◌∙◌, rules, append_assoc, append-nil}
use Rattle.std.proofs.Output.{has_written_append, has_written_of_eq}
use Rattle.std.proofs.lemmas.List.{nil_from_length}
use Rattle.std.proofs.lemmas.Str.{IsUtf8-past_char, chars-nil, chars_past_char}
use Rattle.tox_text.specs.Names.{visible}
use Rattle.tox_text.proofs.names.VisibleNameDisplay.fmt.Goals as goal

pub loop-letter-init : goal.loop-letter-init
loop-letter-init g c = (search rules, tt, search rules, λ plain. ([], search rules, search rules))

pub loop-letter-preserved : goal.loop-letter-preserved
loop-letter-preserved g c =
    let letter = c.in-Some.letter in
    let text = c.loop-letter.invariant.2 in
    let step = chars_past_char _ _ letter text c.in-Some.ensures.steps.0 in (
      search rules,
      tt,
      IsUtf8-past_char _ _ letter text c.in-Some.ensures.steps.0,
      λ plain.
          let so_far = c.loop-letter.invariant.3 plain in (
            so_far.0 ++ visible letter,
            has_written_append _ _ _ _ _ _ so_far.1 (search rules),
            append_assoc so_far.0 _ _ ∙ ap (λ (rest : List ℕ). so_far.0 ++ flat_map visible rest) (sym step) ∙ so_far.2,
          ),
    )

pub returns-clause-writes : goal.returns-clause-writes
returns-clause-writes g c = λ plain _.
    let so_far = c.loop-letter.invariant.3 plain in
    let none = nil_from_length _ c.in-None.ensures.steps.0.0 in
    has_written_of_eq _ _ _ _ _ (rw (none, chars-nil, append-nil) at so_far.2) so_far.1
