-- The table of a text, by the number of its parts.
use Rattle.std.proofs.Common.{◌≡◌, ℕ, ◌+◌, ◌<◌, ◌≤◌, Bool, true, false, cond, List, [], ◌∷◌, length, Option, Some, None, Ok, Err, arith, rules, tests, refl, ap}
use Rattle.std.proofs.Common.{sym, ◌∙◌, is_none, nat_le, ◌==◌}
use Rattle.std.specs.List.{cons_option, filter_map, position_from}
use Rattle.std.specs.Option.{option_map_or}
use Rattle.std.proofs.lemmas.Iterator.Adapters.{position_from-zero}
use Rattle.std.proofs.lemmas.List.Splits.{length-slice_split}
use Rattle.tox_words.specs.Table.{IsWordTable, max_words, table_of}
use Rattle.tox_words.specs.WordsText.{bad_place, parts_of, table_of_text, word_of, words_of}
use Rattle.tox_words.specs.declared.fault.WordsFault.TheVariants.{BadWord, TooMany}

passed_over : (test : Bool) (place : ℕ) (later : Option ℕ) → cond test (Some place) later ≡ None
    → (test ≡ false) × (later ≡ None)
passed_over true place later none = cc
passed_over false place later none = (refl, none)

length-cons_option : {Y : Type 0} (o : Option Y) (ys : List Y) → is_none o ≡ false
    → length (cons_option o ys) ≡ length ys + 1
length-cons_option None ys some = cc
length-cons_option (Some y) ys some = omega arith

length-filter_map_from : {X Y : Type 0} (f : X → Option Y) (place : ℕ) (xs : List X)
    → position_from (λ x. is_none (f x)) place xs ≡ None → length (filter_map f xs) ≡ length xs
length-filter_map_from f place [] none = refl
length-filter_map_from f place (x ∷ xs) none =
    let here = passed_over (is_none (f x)) place (position_from (λ x. is_none (f x)) (place + 1) xs) none in
    let later = length-filter_map_from f (place + 1) xs here.1 in
    omega (arith, length-cons_option (f x) (filter_map f xs) here.0, later)

words_counted : (text : List ℕ) → bad_place (parts_of text) ≡ None
    → length (words_of (parts_of text)) ≡ length (parts_of text)
words_counted text none =
    length-filter_map_from word_of 0 (parts_of text)
    (sym (position_from-zero (λ part. is_none (word_of part)) (parts_of text)) ∙ none)

some_parts : (text : List ℕ) → 0 < length (parts_of text)
some_parts text = omega (arith, length-slice_split (λ byte. byte == 44) text)

table_of_some : (words : List ℕ) → 0 < length words
    → table_of words ≡ cond (nat_le (length words) max_words) (Ok words) (Err TooMany)
table_of_some [] some = absurd (omega arith)
table_of_some (word ∷ words) some = refl

table_of_good : (text : List ℕ) → (length text == 0) ≡ false → bad_place (parts_of text) ≡ None
    → table_of_text text ≡ table_of (words_of (parts_of text))
table_of_good [] some none = cc
table_of_good (byte ∷ bytes) some none =
    let parts = parts_of (byte ∷ bytes) in
    ap (λ place. option_map_or (λ p. Err (BadWord p)) place (table_of (words_of parts))) none

-- where each part is a word, too many parts are too many words
pub many_words : (text : List ℕ) → (length text == 0) ≡ false → bad_place (parts_of text) ≡ None
    → max_words < length (parts_of text) → table_of_text text ≡ Err TooMany
many_words text some none many =
    let words = words_of (parts_of text) in
    let counted = words_counted text none in
    let more : nat_le (length words) max_words ≡ false = rw counted (search (rules, tests)) in
    table_of_good text some none
    ∙ table_of_some words (omega (arith, counted, some_parts text))
    ∙ ap (λ few. cond few (Ok words) (Err TooMany)) more

-- and else the words are a table
pub few_words : (text : List ℕ) → (length text == 0) ≡ false → bad_place (parts_of text) ≡ None
    → length (parts_of text) ≤ max_words
    → (table_of_text text ≡ Ok (words_of (parts_of text))) × IsWordTable (words_of (parts_of text))
few_words text some none few =
    let words = words_of (parts_of text) in
    let counted = words_counted text none in
    let within : nat_le (length words) max_words ≡ true = rw counted (search (rules, tests)) in
    let kept : 0 < length words = omega (arith, counted, some_parts text) in (
      table_of_good text some none ∙ table_of_some words kept
          ∙ ap (λ few. cond few (Ok words) (Err TooMany)) within,
      (kept, omega (arith, counted)),
    )
