-- Ranges of a block.
use Rattle.std.proofs.Common.{◌≡◌, true, slice_index, ◌==◌, ℕ, ◌+◌, ◌-◌, ◌<◌, ◌≤◌, List, [], ◌∷◌, ◌++◌, length, get_or, take, drop, slice_range, ap, sym, subst}
use Rattle.std.proofs.Common.{◌∙◌, arith}
use Rattle.std.proofs.lemmas.List.{drop-drop, drop-take, drop_more, length-take, take-append-drop, take_all}
use Rattle.std.specs.Prelude.{◌≢◌}
use Rattle.std.proofs.lemmas.Bool.Decides.{nat_tests}
use Rattle.std.proofs.lemmas.Grind.{common_steps}
use Rattle.std.proofs.lemmas.List.Elements.{All-from_get_or}
use Rattle.memchr.specs.Find.{Nowhere, Passes, is_byte}
use Rattle.tox_log.specs.Numbers.{Lacks}

-- what is left of a range behind so many elements
pub range-rest : (xs : List ℕ) (from to count : ℕ) → from + count ≤ to → slice_range xs (from + count) to ≡ drop count (slice_range xs from to)
range-rest xs from to count fits =
    let left : ℕ = to - (from + count) in
    let same : to - from ≡ count + left = omega (arith, fits) in
    ap (take left) (sym (drop-drop count from xs)) ∙ sym (drop-take count left (drop from xs)) ∙ ap (λ n. drop count (take n (drop from xs))) (sym same)

-- a list is what stands before an element, the element, and the rest
pub parts-at : (xs : List ℕ) (place byte : ℕ) → place < length xs → get_or xs place 0 ≡ byte → xs ≡ take place xs ++ byte ∷ drop (place + 1) xs
parts-at xs place byte below is =
    sym (take-append-drop place xs) ∙ ap (λ rest. take place xs ++ rest) (drop_more xs place 0 below ∙ ap (λ first. first ∷ drop (place + 1) xs) is)

-- a place in a range stands before its end
pub range-within : (xs : List ℕ) (from to place : ℕ) → place < length (slice_range xs from to) → from + (place + 1) ≤ to
range-within xs from to place below =
    omega (arith, below, length-take (to - from) (drop from xs))

-- an empty range
pub range-none : (xs : List ℕ) (at : ℕ) → slice_range xs at at ≡ []
range-none xs at = let none : at - at ≡ 0 = omega arith in ap (λ n. take n (drop at xs)) none

-- a byte that stands nowhere before a place
pub lacks-before : (byte : ℕ) (xs : List ℕ) (place : ℕ) → place ≤ length xs → Nowhere (Passes (is_byte byte) xs) 0 place → Lacks byte (take place xs)
lacks-before byte xs place within nowhere = All-from_get_or (λ other. other ≢ byte) (take place xs) 0
    (λ i below same. nowhere i (omega arith) (before i below) (passes i (before i below) (sym (front i (before i below)) ∙ same)))
  where
    before : (i : ℕ) → i < length (take place xs) → i < place
    before i below = omega (arith, below, length-take place xs)

    front : (i : ℕ) → i < place → get_or (take place xs) i 0 ≡ get_or xs i 0
    front i below = grind (arith, common_steps, below, within)

    passes : (i : ℕ) → i < place → get_or xs i 0 ≡ byte → (slice_index xs i == byte) ≡ true
    passes i below same =
        let there : slice_index xs i ≡ get_or xs i 0 = grind (arith, common_steps, below, within) in
        grind (arith, nat_tests, there, same)

-- nor in a whole list
pub lacks-nowhere : (byte : ℕ) (xs : List ℕ) → Nowhere (Passes (is_byte byte) xs) 0 (length xs) → Lacks byte xs
lacks-nowhere byte xs nowhere = subst (Lacks byte) (take_all (length xs) xs (omega arith)) (lacks-before byte xs (length xs) (omega arith) nowhere)
