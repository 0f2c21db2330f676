-- What follows the last colon.
use Rattle.std.proofs.Common.{◌≡◌, ℕ, ◌+◌, ◌-◌, ◌<◌, ◌≤◌, ◌≢◌, true, false, not, List, length, drop, get_or, arith, refl, sym, ap, ◌∙◌, length-drop}
use Rattle.std.specs.List.{after_last, suffix_len}
use Rattle.std.specs.Str.{NoCharPasses}
use Rattle.std.specs.Str.Pattern.{HasCharAt}
use Rattle.std.proofs.lemmas.Bool.Decides.{nat_tests}
use Rattle.std.proofs.lemmas.List.{get_or-drop}
use Rattle.std.proofs.lemmas.List.Sums.{suffix_len_is}
use Rattle.std.proofs.lemmas.Str.Pattern.{NoCharPasses-char}
use Rattle.tox_time.specs.Text.{is_colon}

-- a byte that is no colon
pub is_colon-other : (byte : ℕ) → byte ≢ 58 → is_colon byte ≡ false
is_colon-other byte other = grind (arith, nat_tests)

-- behind j no byte is a colon
passes_behind : (text : List ℕ) (j k : ℕ) → NoCharPasses is_colon (drop j text) → j ≤ k → k < length text → not (is_colon (get_or text k 0)) ≡ true
passes_behind text j k none from within =
    let back : j + (k - j) ≡ k = omega arith in
    let read : get_or (drop j text) (k - j) 0 ≡ get_or text k 0 = get_or-drop j text (k - j) 0 ∙ ap (λ n. get_or text n 0) back in
    let other = NoCharPasses-char 58 (drop j text) (k - j) none (omega arith) (omega (arith, length-drop j text)) in
    ap not (is_colon-other (get_or text k 0) (λ e. other (read ∙ e)))

-- where `rsplit_once` found it
pub after_last-found : (text port : List ℕ) (i j : ℕ) → NoCharPasses is_colon (drop j text) × HasCharAt 58 text i j → port ≡ drop j text
    → length port + j ≡ length text → after_last is_colon text ≡ port
after_last-found text port i j found cut whole =
    let after : j ≡ i + 1 = found.1.ends in
    let colon : get_or text i 0 ≡ 58 = found.1.byte (omega arith) in
    let before : get_or text (j - 1) 0 ≡ 58 = ap (λ n. get_or text n 0) (omega arith) ∙ colon in
    let long : suffix_len (λ byte. not (is_colon byte)) text ≡ length text - j =
    suffix_len_is (λ byte. not (is_colon byte)) text j 0 (omega arith) (λ k from within. passes_behind text j k found.0 from within) (λ _. rw before refl) in
    let start : length text - (length text - j) ≡ j = omega arith in
    rw (long, start) (sym cut)

-- of a text in which `rsplit_once` found no colon, all
pub after_last-none : (text : List ℕ) → NoCharPasses is_colon text → after_last is_colon text ≡ text
after_last-none text none =
    let long : suffix_len (λ byte. not (is_colon byte)) text ≡ length text - 0 =
    suffix_len_is (λ byte. not (is_colon byte)) text 0 0 (omega arith) (λ k from within. passes_behind text 0 k none from within) (λ some. absurd (omega arith)) in
    let start : length text - (length text - 0) ≡ 0 = omega arith in
    rw (long, start) refl
