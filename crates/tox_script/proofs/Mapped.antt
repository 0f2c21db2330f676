-- The first image that passes a test.
use Rattle.std.proofs.Common.{◌≡◌, Bool, true, false, cond, List, [], ◌∷◌, Option, Some, None, Bor, map, option_map, refl}
use Rattle.std.specs.List.{find}

-- the first image that passes is that of the first element whose image does
pub find-map : {X Y : Type 0} (test : Y → Bool) (f : X → Y) (xs : List X) → option_map f (find (λ x. test (f x)) xs) ≡ find test (map f xs)
find-map test f [] = refl
find-map test f (x ∷ xs) = at (test (f x)) (find-map test f xs)
  where
    at : (passes : Bool) → option_map f (find (λ y. test (f y)) xs) ≡ find test (map f xs)
        → option_map f (cond passes (Some x) (find (λ y. test (f y)) xs)) ≡ cond passes (Some (f x)) (find test (map f xs))
    at true others = refl
    at false others = others

-- an image of what a reference points to
pub option_map-now : {X Y : Type 0} (f : X → Y) (found : Option (Bor X)) → option_map (λ x. f x.now) found ≡ option_map f (option_map (λ x. x.now) found)
option_map-now f None = refl
option_map-now f (Some x) = refl
