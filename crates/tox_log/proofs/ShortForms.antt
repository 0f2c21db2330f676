-- The bytes of a printed short form: neither a space nor a control character, and ASCII.
use Rattle.std.proofs.Common.{zero, suc, ◌≡◌, ℕ, ◌^◌, ◌<◌, ◌≤◌, Bool, true, false, cond, filter, List, [], ◌∷◌, ◌++◌, length, get_or, codes, decimal, map}
use Rattle.std.proofs.Common.{IsUtf8, refl, ◌∙◌, arith}
use Rattle.std.specs.Prelude.{◌≢◌, ◌&&◌, nat_lt}
use Rattle.std.specs.Char.{is_ascii_digit}
use Rattle.std.specs.List.{join_with_byte, list_all}
use Rattle.std.proofs.lemmas.Bool.{and_parts}
use Rattle.std.proofs.lemmas.Bool.Decides.{nat_tests}
use Rattle.std.proofs.lemmas.Fmt.{digits_decimal}
use Rattle.std.proofs.lemmas.List.Elements.{All-cons, All-nil}
use Rattle.std.proofs.lemmas.List.Folds.{list_all-append}
use Rattle.std.proofs.lemmas.Str.{IsUtf8-from_ascii}
use Rattle.tox_time.proofs.Numbers.{ascii_digits}
use Rattle.tox_defs.specs.declared.toxic.Toxic.{Toxic}
use Rattle.tox_defs.specs.Toxic.{IsInRange, name_of}
use Rattle.tox_defs.specs.short.Pairs.{is_word, is_word_byte}
use Rattle.tox_defs.specs.short.Printed.{is_shown, printed_pair, printed_pairs, printed_short}
use Rattle.tox_defs.proofs.Spelled.{AreShort, Named, entries_of}
use Rattle.tox_defs.proofs.ToxicProofs.{toxic_facts}
use Rattle.tox_log.specs.Numbers.{Lacks}

-- whether a byte is a letter, a digit or a sign of ASCII
abbrev pub is_sign : ℕ → Bool
is_sign byte = nat_lt 32 byte && nat_lt byte 127

abbrev pub are_signs : List ℕ → Bool
are_signs text = list_all is_sign text

both-signs : (xs ys : List ℕ) → are_signs xs ≡ true → are_signs ys ≡ true → are_signs (xs ++ ys) ≡ true
both-signs xs ys first second = list_all-append is_sign xs ys ∙ rw first second

-- bytes of one kind are signs where each byte of that kind is
signs-of : (kind : ℕ → Bool) → ((byte : ℕ) → kind byte ≡ true → is_sign byte ≡ true) → (text : List ℕ) → list_all kind text ≡ true → are_signs text ≡ true
signs-of kind sign [] all = refl
signs-of kind sign (byte ∷ text) all =
    let parts = and_parts (kind byte) (list_all kind text) all in
    rw (sign byte parts.0) (signs-of kind sign text parts.1)

word-signs : (text : List ℕ) → list_all is_word_byte text ≡ true → are_signs text ≡ true
word-signs = signs-of is_word_byte sign
  where
    sign : (byte : ℕ) → is_word_byte byte ≡ true → is_sign byte ≡ true
    sign byte is = grind (arith, nat_tests)

digit-signs : (text : List ℕ) → list_all is_ascii_digit text ≡ true → are_signs text ≡ true
digit-signs = signs-of is_ascii_digit sign
  where
    sign : (byte : ℕ) → is_ascii_digit byte ≡ true → is_sign byte ≡ true
    sign byte is = grind (arith, nat_tests)

word-bytes : (text : List ℕ) → is_word text ≡ true → list_all is_word_byte text ≡ true
word-bytes text word = (and_parts (nat_lt 0 (length text)) (list_all is_word_byte text) word).1

pair-signs : (entry : Named) → is_word entry.0 ≡ true → entry.1 < 10 ^ 18 → are_signs (printed_pair entry) ≡ true
pair-signs entry word small =
    let value = digit-signs (decimal entry.1) (digits_decimal ascii_digits entry.1 (omega (arith, small))) in
    both-signs (entry.0 ++ codes "=") (decimal entry.1) (both-signs entry.0 (codes "=") (word-signs entry.0 (word-bytes entry.0 word)) refl) value

shown-signs : (entries : List Named) → list_all (λ entry. is_word entry.0) entries ≡ true → AreShort entries
    → list_all are_signs (map printed_pair (filter is_shown entries)) ≡ true
shown-signs [] words short = refl
shown-signs (entry ∷ entries) words short =
    let parts = and_parts (is_word entry.0) (list_all (λ e. is_word e.0) entries) words in
    by (is_shown entry) (pair-signs entry parts.0 short.0) (shown-signs entries parts.1 short.1)
  where
    by : (shown : Bool) → are_signs (printed_pair entry) ≡ true → list_all are_signs (map printed_pair (filter is_shown entries)) ≡ true
        → list_all are_signs (map printed_pair (cond shown (entry ∷ filter is_shown entries) (filter is_shown entries))) ≡ true
    by true first rest = rw first rest
    by false first rest = rest

join-signs : (texts : List (List ℕ)) → list_all are_signs texts ≡ true → are_signs (join_with_byte 44 texts) ≡ true
join-signs [] all = refl
join-signs (text ∷ []) all = (and_parts (are_signs text) true all).0
join-signs (text ∷ next ∷ texts) all =
    let parts = and_parts (are_signs text) (list_all are_signs (next ∷ texts)) all in
    both-signs text (44 ∷ join_with_byte 44 (next ∷ texts)) parts.0 (join-signs (next ∷ texts) parts.1)

pub short-signs : (toxic : Toxic) (toxicity : ℕ) → IsInRange toxic → toxicity ≤ 1000 → are_signs (printed_short toxic toxicity) ≡ true
short-signs toxic toxicity inside most =
    let facts = toxic_facts toxic in
    let shown = map printed_pair (filter is_shown (entries_of toxic)) in
    let last : Named = (codes "toxicity", toxicity) in
    let pairs : list_all are_signs (printed_pairs toxic toxicity) ≡ true =
    list_all-append are_signs shown (printed_pair last ∷ []) ∙ rw (
      shown-signs (entries_of toxic) facts.spelled.words (facts.short inside),
      pair-signs last refl (omega (arith, most)),
    ) refl in
    both-signs (name_of toxic ++ codes ":") (join_with_byte 44 (printed_pairs toxic toxicity))
    (both-signs (name_of toxic) (codes ":") (word-signs (name_of toxic) (word-bytes (name_of toxic) facts.spelled.word)) refl)
    (join-signs (printed_pairs toxic toxicity) pairs)

-- so it has no byte up to the space
pub signs-lack : (byte : ℕ) (text : List ℕ) → byte ≤ 32 → are_signs text ≡ true → Lacks byte text
signs-lack byte [] small all = All-nil (λ other. other ≢ byte)
signs-lack byte (x ∷ xs) small all =
    let parts = and_parts (is_sign x) (are_signs xs) all in
    let is = and_parts (nat_lt 32 x) (nat_lt x 127) parts.0 in
    let least : 32 < x = grind (arith, nat_tests) in
    All-cons (λ other. other ≢ byte) x xs (λ same. omega (arith, same, least, small)) (signs-lack byte xs small parts.1)

-- and is text
pub signs-utf8 : (text : List ℕ) → are_signs text ≡ true → IsUtf8 text
signs-utf8 text all = IsUtf8-from_ascii text (ascii text all)
  where
    small : (byte : ℕ) → is_sign byte ≡ true → byte < 128
    small byte is =
        let parts = and_parts (nat_lt 32 byte) (nat_lt byte 127) is in
        let below : byte < 127 = grind (arith, nat_tests) in
        omega (arith, below)

    ascii : (text : List ℕ) → are_signs text ≡ true → (i : ℕ) → get_or text i 0 < 128
    ascii [] all i = omega arith
    ascii (x ∷ xs) all zero = small x (and_parts (is_sign x) (are_signs xs) all).0
    ascii (x ∷ xs) all (suc i) = ascii xs (and_parts (is_sign x) (are_signs xs) all).1 i
