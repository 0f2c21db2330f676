-- No two streams have their logs in one file: its name tells the number, the stream, and the proxy's name or its place.
use Rattle.std.proofs.Common.{◌≡◌, ℕ, ◌^◌, ◌<◌, ◌==◌, Bool, true, false, List, [], ◌∷◌, ◌++◌, codes, get_or, refl, ap, ap₂, sym, ◌∙◌, subst, append_assoc, inl}
use Rattle.std.proofs.Common.{inr, if◌then◌else◌, arith}
use Rattle.std.specs.Prelude.{◌⊎◌, not}
use Rattle.std.specs.Char.{is_ascii_digit}
use Rattle.std.specs.Fmt.{decimal}
use Rattle.std.specs.List.{list_all}
use Rattle.std.proofs.lemmas.Bool.{and_parts}
use Rattle.std.proofs.lemmas.Bool.Decides.{nat_tests}
use Rattle.std.proofs.lemmas.Fmt.{decimal_injective, digits_decimal}
use Rattle.tox_time.proofs.Numbers.{ascii_digits}
use Rattle.tox_time.specs.declared.streams.stream.Stream.{Stream}
use Rattle.tox_time.specs.declared.streams.stream.Stream.TheVariants.{Upstream, Downstream}
use Rattle.tox_time.specs.streams.StreamName.{stream_name}
use Rattle.tox_log.specs.files.FileName.{suits_file, proxy_part, stream_part, log_name}
use Rattle.tox_log.proofs.files.FileNames.{all_weaker, names-apart}

abbrev is_no_dash : ℕ → Bool
is_no_dash byte = not (byte == 45)

-- a text without a dash
abbrev LacksDash : List ℕ → Type 0
LacksDash text = list_all is_no_dash text ≡ true

dash-within : (front rest : List ℕ) → LacksDash (front ++ 45 ∷ rest) → ⊥
dash-within [] rest lacks = let no : false ≡ true = lacks in (cc)
dash-within (byte ∷ front) rest lacks = dash-within front rest (and_parts (is_no_dash byte) (list_all is_no_dash (front ++ 45 ∷ rest)) lacks).1

-- a text is cut in one way at its last dash
cut-last : (front other rest behind : List ℕ) → LacksDash rest → LacksDash behind → front ++ 45 ∷ rest ≡ other ++ 45 ∷ behind
    → (front ≡ other) × (rest ≡ behind)
cut-last [] [] rest behind lacks none same = let rests : rest ≡ behind = cc in (refl, rests)
cut-last [] (byte ∷ other) rest behind lacks none same =
    let rests : rest ≡ other ++ 45 ∷ behind = cc in
    absurd (dash-within other behind (subst LacksDash rests lacks))
cut-last (byte ∷ front) [] rest behind lacks none same =
    let rests : behind ≡ front ++ 45 ∷ rest = cc in
    absurd (dash-within front rest (subst LacksDash rests none))
cut-last (byte ∷ front) (first ∷ other) rest behind lacks none same =
    let firsts : byte ≡ first = cc in
    let rests : front ++ 45 ∷ rest ≡ other ++ 45 ∷ behind = cc in
    let cut = cut-last front other rest behind lacks none rests in
    (ap₂ (λ (one : ℕ) (more : List ℕ). one ∷ more) firsts cut.0, cut.1)

digit_no_dash : (byte : ℕ) → is_ascii_digit byte ≡ true → is_no_dash byte ≡ true
digit_no_dash byte digit = grind (arith, nat_tests, digit)

decimal-lacks : (n : ℕ) → n < 2 ^ 64 → LacksDash (decimal n)
decimal-lacks n fits = all_weaker is_ascii_digit is_no_dash digit_no_dash (decimal n) (digits_decimal ascii_digits n fits)

-- what stands behind the last dash
abbrev ending : Stream → List ℕ
ending stream = stream_name stream ++ codes ".log"

ending-lacks : (stream : Stream) → LacksDash (ending stream)
ending-lacks Upstream = refl
ending-lacks Downstream = refl

ending-once : (one two : Stream) → ending one ≡ ending two → one ≡ two
ending-once Upstream Upstream same = refl
ending-once Upstream Downstream same = let no : true ≡ false = ap (λ bytes. get_or bytes 0 0 == 117) same in (cc)
ending-once Downstream Upstream same = let no : false ≡ true = ap (λ bytes. get_or bytes 0 0 == 117) same in (cc)
ending-once Downstream Downstream same = refl

-- the parts of a name
parts-once : (part other : List ℕ) (number count : ℕ) (one two : Stream) → number < 2 ^ 64 → count < 2 ^ 64
    → part ++ stream_part number one ≡ other ++ stream_part count two → (part ≡ other) × (number ≡ count) × (one ≡ two)
parts-once part other number count one two number_fits count_fits same =
    let last = cut-last (part ++ 45 ∷ decimal number) (other ++ 45 ∷ decimal count) (ending one) (ending two) (ending-lacks one) (ending-lacks two)
    (append_assoc part (45 ∷ decimal number) (45 ∷ ending one) ∙ same ∙ sym (append_assoc other (45 ∷ decimal count) (45 ∷ ending two))) in
    let first = cut-last part other (decimal number) (decimal count) (decimal-lacks number number_fits) (decimal-lacks count count_fits) last.0 in
    (first.0, decimal_injective number count number_fits count_fits first.1, ending-once one two last.1)

-- one file is that of one number, one stream, and one proxy's name or place
pub one-file : (a b : List ℕ) (place other number count : ℕ) (one two : Stream) → place < 2 ^ 64 → other < 2 ^ 64 → number < 2 ^ 64 → count < 2 ^ 64
    → log_name a place number one ≡ log_name b other count two → (number ≡ count) × (one ≡ two) × ((a ≡ b) ⊎ (place ≡ other))
one-file a b place other number count one two place_fits other_fits number_fits count_fits same =
    let parts = parts-once (proxy_part a place) (proxy_part b other) number count one two number_fits count_fits same in
    (parts.1, parts.2, by_shape (suits_file a) (suits_file b) refl refl parts.0)
  where
    by_shape : (named suited : Bool) → suits_file a ≡ named → suits_file b ≡ suited
        → (if suits_file a then a else codes "@" ++ decimal place) ≡ (if suits_file b then b else codes "@" ++ decimal other) → (a ≡ b) ⊎ (place ≡ other)
    by_shape true true first second equal =
        inl (sym (ap (λ test. if test then a else codes "@" ++ decimal place) first) ∙ equal
        ∙ ap (λ test. if test then b else codes "@" ++ decimal other) second)
    by_shape true false first second equal = absurd (names-apart a b place other number count one two first second same)
    by_shape false true first second equal = absurd (names-apart b a other place count number two one second first (sym same))
    by_shape false false first second equal =
        let texts : codes "@" ++ decimal place ≡ codes "@" ++ decimal other =
        sym (ap (λ test. if test then a else codes "@" ++ decimal place) first) ∙ equal ∙ ap (λ test. if test then b else codes "@" ++ decimal other) second in
        let digits : decimal place ≡ decimal other = cc in
        inr (decimal_injective place other place_fits other_fits digits)
