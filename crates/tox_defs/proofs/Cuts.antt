-- A text is cut at the first byte that its front lacks.
use Rattle.std.proofs.Common.{◌≡◌, ℕ, ◌+◌, ◌<◌, Bool, true, false, not, ◌==◌, List, [], ◌∷◌, ◌++◌, length, is_some, refl, ap, ◌∙◌, arith, rules, tests, take}
use Rattle.std.proofs.Common.{drop, length-append}
use Rattle.std.specs.List.{after_first, before_first, join_with_byte, list_all, position, position_or_len, slice_split, All}
use Rattle.std.proofs.lemmas.Bool.{and_parts, not-true}
use Rattle.std.proofs.Math.Seq.{take-append_seam, drop-append-add}
use Rattle.std.proofs.lemmas.List.Elements.{All-cons, All-from_recursion}
use Rattle.std.proofs.lemmas.List.Splits.{slice_split_at, slice_split_none}

-- no byte of a text passes
abbrev pub lacks : (ℕ → Bool) → List ℕ → Bool
lacks test text = list_all (λ byte. not (test byte)) text

position_or_len-front : (test : ℕ → Bool) (front : List ℕ) (byte : ℕ) (behind : List ℕ)
    → lacks test front ≡ true → test byte ≡ true
    → position_or_len test (front ++ byte ∷ behind) ≡ length front
position_or_len-front test [] byte behind none here = rw here refl
position_or_len-front test (first ∷ front) byte behind none here =
    let parts = and_parts (not (test first)) (lacks test front) none in
    let later = position_or_len-front test front byte behind parts.1 here in
    rw (not-true (test first) parts.0) (omega (arith, later))

pub before_first-front : (test : ℕ → Bool) (front : List ℕ) (byte : ℕ) (behind : List ℕ)
    → lacks test front ≡ true → test byte ≡ true
    → before_first test (front ++ byte ∷ behind) ≡ front
before_first-front test front byte behind none here =
    ap (λ n. take n (front ++ byte ∷ behind)) (position_or_len-front test front byte behind none here)
    ∙ take-append_seam front (byte ∷ behind)

pub after_first-front : (test : ℕ → Bool) (front : List ℕ) (byte : ℕ) (behind : List ℕ)
    → lacks test front ≡ true → test byte ≡ true
    → after_first test (front ++ byte ∷ behind) ≡ behind
after_first-front test front byte behind none here =
    ap (λ n. drop (n + 1) (front ++ byte ∷ behind)) (position_or_len-front test front byte behind none here)
    ∙ drop-append-add front (byte ∷ behind) 1

-- the byte is found
pub position-front : (test : ℕ → Bool) (front : List ℕ) (byte : ℕ) (behind : List ℕ)
    → lacks test front ≡ true → test byte ≡ true
    → is_some (position test (front ++ byte ∷ behind)) ≡ true
position-front test front byte behind none here =
    let place = position_or_len-front test front byte behind none here in
    let within : position_or_len test (front ++ byte ∷ behind) < length (front ++ byte ∷ behind) =
    rw place (omega (arith, length-append {A = ℕ})) in
    search (rules, tests)

All-from_lacks : (test : ℕ → Bool) (text : List ℕ) → lacks test text ≡ true
    → All (λ byte. test byte ≡ false) text
All-from_lacks test [] none = All-from_recursion (λ byte. test byte ≡ false) [] tt
All-from_lacks test (byte ∷ text) none =
    let parts = and_parts (not (test byte)) (lacks test text) none in
    All-cons (λ byte. test byte ≡ false) byte text (not-true (test byte) parts.0) (All-from_lacks test text parts.1)

-- parts that lack the byte by which they are joined
pub slice_split-join_with_byte : (byte : ℕ) (parts : List (List ℕ)) → 0 < length parts
    → list_all (lacks (λ b. b == byte)) parts ≡ true
    → slice_split (λ b. b == byte) (join_with_byte byte parts) ≡ parts
slice_split-join_with_byte byte [] some none = absurd (omega arith)
slice_split-join_with_byte byte (part ∷ []) some none =
    let here = and_parts (lacks (λ b. b == byte) part) true none in
    slice_split_none (λ b. b == byte) part (All-from_lacks (λ b. b == byte) part here.0)
slice_split-join_with_byte byte (part ∷ next ∷ parts) some none =
    let here = and_parts (lacks (λ b. b == byte) part) (list_all (lacks (λ b. b == byte)) (next ∷ parts)) none in
    slice_split_at (λ b. b == byte) part byte (join_with_byte byte (next ∷ parts))
    (All-from_lacks (λ b. b == byte) part here.0) (search (rules, tests))
    ∙ ap (λ later. part ∷ later) (slice_split-join_with_byte byte (next ∷ parts) (omega arith) here.1)
