-- The name of a log's file has no byte but those that may stand in it, and says whether its proxy's name suits.
use Rattle.std.proofs.Common.{◌≡◌, ℕ, ◌^◌, ◌<◌, ◌==◌, Bool, true, false, ◌&&◌, List, [], ◌∷◌, ◌++◌, codes, get_or, refl, ap, sym, ◌∙◌, arith, if◌then◌else◌}
use Rattle.std.proofs.Common.{length}
use Rattle.std.specs.Prelude.{nat_le, not}
use Rattle.std.specs.Char.{is_ascii_digit}
use Rattle.std.specs.Fmt.{decimal}
use Rattle.std.specs.List.{list_all}
use Rattle.std.proofs.lemmas.Bool.{and_parts}
use Rattle.std.proofs.lemmas.Bool.Decides.{nat_tests}
use Rattle.std.proofs.lemmas.Fmt.{digits_decimal}
use Rattle.std.proofs.lemmas.List.Folds.{list_all-append}
use Rattle.tox_time.proofs.Numbers.{ascii_digits}
use Rattle.tox_time.specs.declared.streams.stream.Stream.{Stream}
use Rattle.tox_time.specs.declared.streams.stream.Stream.TheVariants.{Upstream, Downstream}
use Rattle.tox_time.specs.streams.StreamName.{stream_name}
use Rattle.tox_log.specs.files.FileName.{is_plain_byte, suits_file, proxy_part, stream_part, log_name, is_file_byte, names_file}

plain_byte : (byte : ℕ) → is_plain_byte byte ≡ true → is_file_byte byte ≡ true
plain_byte byte plain = grind (arith, nat_tests, plain)

digit_byte : (byte : ℕ) → is_ascii_digit byte ≡ true → is_file_byte byte ≡ true
digit_byte byte digit = grind (arith, nat_tests, digit)

pub all_weaker : (p q : ℕ → Bool) → ((byte : ℕ) → p byte ≡ true → q byte ≡ true) → (text : List ℕ) → list_all p text ≡ true → list_all q text ≡ true
all_weaker p q weaker [] all = refl
all_weaker p q weaker (byte ∷ text) all =
    let parts = and_parts (p byte) (list_all p text) all in
    rw (weaker byte parts.0) (all_weaker p q weaker text parts.1)

names-append : (a b : List ℕ) → names_file a ≡ true → names_file b ≡ true → names_file (a ++ b) ≡ true
names-append a b first second = list_all-append is_file_byte a b ∙ rw first second

names-decimal : (n : ℕ) → n < 2 ^ 64 → names_file (decimal n) ≡ true
names-decimal n fits = all_weaker is_ascii_digit is_file_byte digit_byte (decimal n) (digits_decimal ascii_digits n fits)

names-stream : (stream : Stream) → names_file (stream_name stream) ≡ true
names-stream Upstream = refl
names-stream Downstream = refl

names-part : (name : List ℕ) (place : ℕ) → place < 2 ^ 64 → names_file (proxy_part name place) ≡ true
names-part name place fits = by_test (suits_file name) refl
  where
    by_test : (b : Bool) → suits_file name ≡ b → names_file (if b then name else codes "@" ++ decimal place) ≡ true
    by_test true suits = all_weaker is_plain_byte is_file_byte plain_byte name
        (and_parts (not (length name == 0) && nat_le (length name) 64) (list_all is_plain_byte name) suits).1
    by_test false suits = names-append (codes "@") (decimal place) refl (names-decimal place fits)

-- what is made of parts that may stand there
pub names-log : (name : List ℕ) (place number : ℕ) (stream : Stream) → place < 2 ^ 64 → number < 2 ^ 64
    → names_file (log_name name place number stream) ≡ true
names-log name place number stream first second =
    let ending : List ℕ = stream_name stream ++ codes ".log" in
    let numbered : List ℕ = decimal number ++ (codes "-" ++ ending) in
    let ends : names_file ending ≡ true = names-append (stream_name stream) (codes ".log") (names-stream stream) refl in
    let counts : names_file numbered ≡ true = names-append (decimal number) (codes "-" ++ ending) (names-decimal number second)
    (names-append (codes "-") ending refl ends) in
    names-append (proxy_part name place) (codes "-" ++ numbered) (names-part name place first) (names-append (codes "-") numbered refl counts)

-- no file of a proxy whose name suits is one of a proxy whose name doesn't
pub names-apart : (a b : List ℕ) (place other number count : ℕ) (one two : Stream) → suits_file a ≡ true → suits_file b ≡ false
    → log_name a place number one ≡ log_name b other count two → ⊥
names-apart [] b place other number count one two suits placed same = let no : false ≡ true = suits in (cc)
names-apart (byte ∷ text) b place other number count one two suits placed same =
    let name : List ℕ = byte ∷ text in
    let first = λ (test : Bool). get_or ((if test then name else codes "@" ++ decimal place) ++ stream_part number one) 0 0 in
    let other_first = λ (test : Bool). get_or ((if test then b else codes "@" ++ decimal other) ++ stream_part count two) 0 0 in
    let here : byte ≡ 64 = sym (ap first suits) ∙ ap (λ bytes. get_or bytes 0 0) same ∙ ap other_first placed in
    let all = (and_parts (not (length name == 0) && nat_le (length name) 64) (list_all is_plain_byte name) suits).1 in
    let plain = (and_parts (is_plain_byte byte) (list_all is_plain_byte text) all).0 in
    let no : false ≡ true = sym (ap is_plain_byte here) ∙ plain in
    (cc)
