-- The elements of a list, and their texts one after the other.
use Rattle.std.proofs.Common.{◌≡◌, ℕ, ◌+◌, ◌<◌, List, [], ◌∷◌, ◌++◌, length, take, drop, get_or, flat_map, map, refl, ap, sym, ◌∙◌, append-nil, zero-add, subst}
use Rattle.std.proofs.Common.{arith}
use Rattle.std.specs.List.{enumerate_from, zip}
use Rattle.std.proofs.lemmas.Grind.{flat_map-append}
use Rattle.std.proofs.lemmas.List.{get_or-map, length-map, take_more, take-append-drop, drop_more}
use Rattle.std.proofs.lemmas.List.FromFn.{get_or-enumerate_from, length-enumerate_from}
use Rattle.std.proofs.lemmas.Slice.Zip.{get_or-zip, length-zip}
use Rattle.tox_defs.specs.declared.attributes.attribute.Attribute.{Attribute}
use Rattle.tox_defs.proofs.NoAttribute.{no_attribute}

-- the name of an attribute
abbrev name : Attribute → List ℕ
name attribute = attribute.name.now

-- an element stands at an index
pub record IsAt {X : Type 0} (xs : List X) (i : ℕ) (x : X) : Type 0 where
  pub below : i < length xs
  pub default : X
  pub is : x ≡ get_or xs i default

-- an element that was read stands at its index
pub IsAt-read : {X : Type 0} (xs : List X) (i : ℕ) (default : X) → i < length xs → IsAt xs i (get_or xs i default)
IsAt-read xs i default below = record { below = below; default = default; is = refl }

-- the first elements and one more
pub flat_map-more : {X Y : Type 0} (f : X → List Y) (xs : List X) (i : ℕ) (x : X) → IsAt xs i x
    → flat_map f (take i xs) ++ f x ≡ flat_map f (take (i + 1) xs)
flat_map-more f xs i x here =
    sym (
    ap (flat_map f) (take_more xs i here.default here.below)
    ∙ flat_map-append f (take i xs) (get_or xs i here.default ∷ [])
    ∙ ap (λ ys. flat_map f (take i xs) ++ ys) (append-nil (f (get_or xs i here.default)))
    ∙ ap (λ y. flat_map f (take i xs) ++ f y) (sym here.is))

-- and the others
pub flat_map-parts : {X : Type 0} (f : X → List ℕ) (xs : List X) (i : ℕ) (x : X) → IsAt xs i x
    → flat_map f (take i xs) ++ (f x ++ flat_map f (drop (i + 1) xs)) ≡ flat_map f xs
flat_map-parts f xs i x here =
    ap (λ y. flat_map f (take i xs) ++ (f y ++ flat_map f (drop (i + 1) xs))) here.is
    ∙ ap (λ ys. flat_map f (take i xs) ++ flat_map f ys) (sym (drop_more xs i here.default here.below))
    ∙ sym (flat_map-append f (take i xs) (drop i xs))
    ∙ ap (flat_map f) (take-append-drop i xs)

-- elements of two lists stand beside one another at their index
IsAt-zip : {X Y : Type 0} (xs : List X) (ys : List Y) (i : ℕ) (x : X) (y : Y) → i < length xs → i < length ys
    → IsAt (zip xs ys) i (get_or xs i x, get_or ys i y)
IsAt-zip xs ys i x y below_xs below_ys =
    record { below = omega (arith, length-zip xs ys); default = (x, y); is = sym (get_or-zip xs ys i (x, y) below_xs below_ys) }

-- the name of an attribute and the value beside it
pub IsAt-pair : (attributes : List Attribute) (values : List ℕ) (i : ℕ) → i < length attributes → i < length values
    → IsAt (zip (map name attributes) values) i (name (get_or attributes i no_attribute), get_or values i 0)
IsAt-pair attributes values i below_attributes below_values =
    let below : i < length (map name attributes) = omega (arith, length-map attributes name, below_attributes) in
    let same = get_or-map name attributes i no_attribute (name no_attribute) below_attributes in
    subst (λ name_there. IsAt (zip (map name attributes) values) i (name_there, get_or values i 0)) same
    (IsAt-zip (map name attributes) values i (name no_attribute) 0 below below_values)

-- an element stands beside its index
pub IsAt-enumerate : {X : Type 0} (xs : List X) (i : ℕ) (x : X) → IsAt xs i x → IsAt (enumerate_from 0 xs) i (i, x)
IsAt-enumerate {X} xs i x here = record {
  below = omega (arith, length-enumerate_from 0 xs, here.below);
  default = (0, here.default);
  is =
      ap (λ y. (i, y)) here.is
      ∙ sym (get_or-enumerate_from 0 xs i (0, here.default) here.below ∙ ap (λ (n : ℕ). (n, get_or xs i here.default)) (zero-add i));
}

-- an element, and the text of its name, stand at their index
pub IsAt-named : {X N : Type 0} (text : N → List ℕ) (xs : List X) (names : List N) (i : ℕ) (x : X) (name : N) → length names ≡ length xs → i < length xs
    → name ≡ get_or names i name
    → IsAt (zip xs (map text names)) i (get_or xs i x, text name)
IsAt-named text xs names i x name one_each below is =
    let named : i < length (map text names) = omega (arith, length-map names text, one_each, below) in
    let same = get_or-map text names i name (text name) (omega (arith, one_each, below)) ∙ ap text (sym is) in
    subst (λ t. IsAt (zip xs (map text names)) i (get_or xs i x, t)) same (IsAt-zip xs (map text names) i x (text name) below named)

-- and with their index
pub IsAt-placed : {X N : Type 0} (text : N → List ℕ) (xs : List X) (names : List N) (i : ℕ) (x : X) (name : N) → length names ≡ length xs → i < length xs
    → name ≡ get_or names i name
    → IsAt (enumerate_from 0 (zip xs (map text names))) i (i, (get_or xs i x, text name))
IsAt-placed text xs names i x name one_each below is =
    IsAt-enumerate (zip xs (map text names)) i (get_or xs i x, text name) (IsAt-named text xs names i x name one_each below is)
