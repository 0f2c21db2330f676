-- A test of what a function makes of each element.
use Rattle.std.proofs.Common.{◌≡◌, Bool, ◌&&◌, ◌||◌, List, [], ◌∷◌, map, refl, ap}
use Rattle.std.specs.List.{list_all, list_any, zip}

-- some element passes where some of its images does
pub list_any-map : {X Y : Type 0} (test : Y → Bool) (f : X → Y) (xs : List X)
    → list_any test (map f xs) ≡ list_any (λ x. test (f x)) xs
list_any-map test f [] = refl
list_any-map test f (x ∷ xs) = ap (λ later. test (f x) || later) (list_any-map test f xs)

-- each pair passes where each does whose first part is an image
pub list_all_zip_map : {X Y Z : Type 0} (test : Y × Z → Bool) (f : X → Y) (xs : List X) (zs : List Z)
    → list_all test (zip (map f xs) zs) ≡ list_all (λ pair. test (f pair.0, pair.1)) (zip xs zs)
list_all_zip_map test f [] zs = refl
list_all_zip_map test f (x ∷ xs) [] = refl
list_all_zip_map test f (x ∷ xs) (z ∷ zs) = ap (λ later. test (f x, z) && later) (list_all_zip_map test f xs zs)
