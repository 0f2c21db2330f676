-- A list with one element replaced.
use Rattle.std.proofs.Common.{ℕ, zero, suc, ◌<◌, ◌≡◌, ◌≢◌, List, [], ◌∷◌, Some, length, map, set, get_or, refl, sym, ◌∙◌, ap, arith}
use Rattle.std.specs.List.{slice_get}
use Rattle.std.proofs.lemmas.List.{map-set, get_or-map, length-map}

pub slice_get-set_same : {X : Type 0} (xs : List X) (i : ℕ) (x : X) → i < length xs → slice_get (set xs i x) i ≡ Some x
slice_get-set_same [] i x h = absurd (omega arith)
slice_get-set_same (y ∷ ys) zero x h = refl
slice_get-set_same (y ∷ ys) (suc i) x h = slice_get-set_same ys i x (omega arith)

pub slice_get-set_other : {X : Type 0} (xs : List X) (i j : ℕ) (x : X) → j ≢ i → slice_get (set xs i x) j ≡ slice_get xs j
slice_get-set_other [] i j x h = refl
slice_get-set_other (y ∷ ys) zero zero x h = absurd (h refl)
slice_get-set_other (y ∷ ys) zero (suc j) x h = refl
slice_get-set_other (y ∷ ys) (suc i) zero x h = refl
slice_get-set_other (y ∷ ys) (suc i) (suc j) x h = slice_get-set_other ys i j x (λ e. h (ap suc e))

-- what the lists are where one of their owners, which had the list of x, has another
pub lists_replaced : {Q A : Type 0} (f : Q → List A) (owners : List Q) (k : ℕ) (x y : Q) (lists : List (List A)) (change : List A → List A)
    → lists ≡ map f owners → k < length lists → x ≡ get_or owners k x → f y ≡ change (f x) → map f (set owners k y) ≡ set lists k (change (get_or lists k []))
lists_replaced f owners k x y lists change all small at changed =
    let same : length lists ≡ length owners = ap length all ∙ length-map owners f in
    let within : k < length owners = omega arith in
    let here : get_or lists k [] ≡ f x = ap (λ ls. get_or ls k []) all ∙ get_or-map f owners k x [] within ∙ ap f (sym at) in
    map-set f owners k y ∙ ap (λ ls. set ls k (f y)) (sym all) ∙ ap (set lists k) (changed ∙ ap change (sym here))
