-- The lines of rules, as they are printed and counted.
use Rattle.std.proofs.Common.{◌≡◌, ℕ, ◌+◌, ◌-◌, ◌^◌, List, [], ◌∷◌, ◌++◌, append-nil, codes, decimal, flat_map, get_or, length, map, min, take, arith}
use Rattle.std.proofs.Common.{length-append, refl, sym, ap, ◌∙◌}
use Rattle.std.proofs.lemmas.Grind.{flat_map-append}
use Rattle.std.proofs.lemmas.List.{length-map, take_more}
use Rattle.tox_text.proofs.Listed.{IsAt}
use Rattle.tox_check.specs.Checking.{held}
use Rattle.tox_check.specs.Printing.{joined_lines}
use Rattle.tox_check.specs.Sentences.{sentence, warning_text}
use Rattle.tox_check.specs.declared.warning.Warning.{Warning}

-- the lines of warnings
abbrev pub lines_of : ℕ → List Warning → List (List ℕ)
lines_of number warnings = map (λ text. (codes "rule " ++ decimal number) ++ text) (map warning_text warnings)

pub joined_lines-lines_of : (number : ℕ) (warnings : List Warning) → flat_map (sentence number) warnings ≡ joined_lines (lines_of number warnings)
joined_lines-lines_of number [] = refl
joined_lines-lines_of number (warning ∷ warnings) = ap (λ lines. sentence number warning ++ lines) (joined_lines-lines_of number warnings)

pub length-lines_of : (number : ℕ) (warnings : List Warning) → length (lines_of number warnings) ≡ length warnings
length-lines_of number warnings = length-map (map warning_text warnings) (λ text. (codes "rule " ++ decimal number) ++ text) ∙ length-map warnings warning_text

-- lines by elements of a list, joined element by element
pub joined_lines-flat_map : {X : Type 0} (f : X → List (List ℕ)) (xs : List X) → flat_map (λ x. joined_lines (f x)) xs ≡ joined_lines (flat_map f xs)
joined_lines-flat_map f [] = refl
joined_lines-flat_map f (x ∷ xs) = ap (λ lines. joined_lines (f x) ++ lines) (joined_lines-flat_map f xs)
    ∙ sym (flat_map-append (λ line. line) (f x) (flat_map f xs))

-- a number is added to one that is held
pub held-plus : (most a b : ℕ) → min (min a most + b) most ≡ min (a + b) most
held-plus most a b = omega arith

-- numbers that are held are added
held-add : (most a b : ℕ) → min (min a most + min b most) most ≡ min (a + b) most
held-add most a b = omega arith

-- the lines of one more element
pub held-more : {X : Type 0} (f : X → List (List ℕ)) (xs : List X) (i : ℕ) (x : X) → IsAt xs i x
    → min (held (length (flat_map f (take i xs))) + held (length (f x))) (2 ^ 64 - 1) ≡ held (length (flat_map f (take (i + 1) xs)))
held-more f xs i x here =
    let parts : flat_map f (take (i + 1) xs) ≡ flat_map f (take i xs) ++ f x =
    ap (flat_map f) (take_more xs i here.default here.below)
    ∙ flat_map-append f (take i xs) (get_or xs i here.default ∷ [])
    ∙ ap (λ ys. flat_map f (take i xs) ++ ys) (append-nil (f (get_or xs i here.default)))
    ∙ ap (λ y. flat_map f (take i xs) ++ f y) (sym here.is) in
    held-add (2 ^ 64 - 1) (length (flat_map f (take i xs))) (length (f x))
    ∙ ap held (sym (ap length parts ∙ length-append (flat_map f (take i xs)) (f x)))
