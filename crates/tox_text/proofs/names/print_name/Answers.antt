-- One character behind the other.
use Rattle.std.proofs.Common.{◌≡◌, ℕ, List, [], ◌∷◌, ◌++◌, chars, sym, ap, ◌∙◌, rules, append_assoc, append-nil}
use Rattle.std.proofs.lemmas.List.{nil_from_length}
use Rattle.std.proofs.lemmas.Str.{IsUtf8-past_char, chars-nil, chars_past_char}
use Rattle.tox_text.proofs.VisibleLetters.{shown_more, shown_parts}
use Rattle.tox_text.proofs.Printings.{Prints-as, Prints-failed, Prints-none, Prints-then}
use Rattle.tox_text.proofs.names.print_name.Goals as goal

pub loop-letter-init : goal.loop-letter-init
loop-letter-init g c = record { text = search rules; passed = ([], search rules, Prints-none c.requires) }

pub loop-letter-preserved : goal.loop-letter-preserved
loop-letter-preserved g c =
    let so_far = c.loop-letter.invariant.passed in
    let step = chars_past_char _ _ c.in-Some.letter c.loop-letter.invariant.text c.in-Some.ensures.steps.0 in record {
      text = IsUtf8-past_char _ _ c.in-Some.letter c.loop-letter.invariant.text c.in-Some.ensures.steps.0;
      passed = (
        so_far.0 ++ c.in-Some.letter ∷ [],
        so_far.1 ∙ ap (λ (rest : List ℕ). so_far.0 ++ rest) step ∙ sym (append_assoc so_far.0 (c.in-Some.letter ∷ []) _),
        Prints-as (shown_more so_far.0 c.in-Some.letter) (Prints-then so_far.2 c.in_ok-print_letter.ensures),
      );
    }

pub returns-in_err-print_letter : goal.returns-in_err-print_letter
returns-in_err-print_letter g c =
    let so_far = c.loop-letter.invariant.passed in
    let step = chars_past_char _ _ c.in-Some.letter c.loop-letter.invariant.text c.in-Some.ensures.steps.0 in
    let parts = shown_parts so_far.0 c.in-Some.letter _ (chars c.args.name.now) (so_far.1 ∙ ap (λ (rest : List ℕ). so_far.0 ++ rest) step) in
    Prints-as parts (Prints-then so_far.2 (Prints-failed _ c.from_residual.ensures.1 c.in_err-print_letter.ensures))

pub returns : goal.returns
returns g c =
    let so_far = c.loop-letter.invariant.passed in
    let none = nil_from_length _ c.in-None.ensures.steps.0.0 in
    let all : chars c.args.name.now ≡ so_far.0 = so_far.1 ∙ rw (none, chars-nil) (append-nil so_far.0) in
    rw (sym all) at so_far.2
