-- Hexadecimal digits of bytes, part by part.
use Rattle.std.proofs.Common.{◌≡◌, ℕ, ◌-◌, ◌+◌, ◌/◌, ◌%◌, ◌≤◌, List, [], ◌∷◌, ◌++◌, length, take, drop, slice_index, refl, arith, ap, sym, ◌∙◌, length-take}
use Rattle.std.proofs.Common.{length-drop}
use Rattle.std.proofs.Math.Seq.{take-add}
use Rattle.std.proofs.lemmas.List.{take_rest, take_min, take-append-drop}
use Rattle.hex.specs.Hex.{encode_with, encode_lower, lower_digits}

encode_with-append : (table xs ys : List ℕ) → encode_with table (xs ++ ys) ≡ encode_with table xs ++ encode_with table ys
unfolding encode_with
encode_with-append table [] ys = refl
encode_with-append table (x ∷ xs) ys = ap (λ zs. slice_index table (x / 16) ∷ slice_index table (x % 16) ∷ zs) (encode_with-append table xs ys)

encode_lower-append : (xs ys : List ℕ) → encode_lower (xs ++ ys) ≡ encode_lower xs ++ encode_lower ys
encode_lower-append xs ys = encode_with-append lower_digits xs ys

pub encode_lower-nil : encode_lower [] ≡ []
unfolding encode_with
encode_lower-nil = refl

-- the bytes from i on, of which k are taken at once
abbrev pub some_of : List ℕ → ℕ → ℕ → List ℕ
some_of bytes i k = take k (take (length bytes - i) (drop i bytes))

pub within_some : (bytes : List ℕ) (i k : ℕ) → i ≤ length bytes → i + length (some_of bytes i k) ≤ length bytes
within_some bytes i k within = omega (arith, length-take {A = ℕ}, length-drop {A = ℕ})

-- the first k are as many as they are
taken : (k : ℕ) (xs : List ℕ) → take k xs ≡ take (length (take k xs)) xs
taken k xs = rw length-take (sym (take_min k xs))

-- the digits of the bytes done and of some more
pub encode_lower_more : (bytes : List ℕ) (i k : ℕ)
    → encode_lower (take i bytes) ++ encode_lower (some_of bytes i k) ≡ encode_lower (take (i + length (some_of bytes i k)) bytes)
encode_lower_more bytes i k =
    let n = length (some_of bytes i k) in
    let rest = drop i bytes in
    let same : some_of bytes i k ≡ take n rest = ap (take k) (take_rest bytes i) ∙ taken k rest
    ∙ ap (λ xs. take (length xs) rest) (ap (take k) (sym (take_rest bytes i))) in
    sym (ap encode_lower (take-add i n bytes) ∙ encode_lower-append (take i bytes) (take n rest)
    ∙ ap (λ xs. encode_lower (take i bytes) ++ encode_lower xs) (sym same))

-- and those of the others
pub encode_lower_parts : (bytes : List ℕ) (i k : ℕ)
    → encode_lower (take i bytes) ++ (encode_lower (some_of bytes i k) ++ encode_lower (drop k (drop i bytes))) ≡ encode_lower bytes
encode_lower_parts bytes i k =
    let rest = drop i bytes in
    ap (λ xs. encode_lower (take i bytes) ++ (encode_lower (take k xs) ++ encode_lower (drop k rest))) (take_rest bytes i)
    ∙ ap (λ xs. encode_lower (take i bytes) ++ xs) (sym (encode_lower-append (take k rest) (drop k rest)) ∙ ap encode_lower (take-append-drop k rest))
    ∙ sym (encode_lower-append (take i bytes) rest) ∙ ap encode_lower (take-append-drop i bytes)
