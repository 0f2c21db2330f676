-- The first of some rules, and of others behind them, by its number.
use Rattle.std.proofs.Common.{◌≡◌, ℕ, suc, ◌+◌, Bool, true, false, cond, List, [], ◌∷◌, ◌++◌, length, map, Option, Some, Result, Ok, Err, IfOk, slice_get}
use Rattle.std.proofs.Common.{arith, refl, sym, ap, ◌∙◌}
use Rattle.std.specs.List.{find, position_from}
use Rattle.std.specs.Option.{option_and_then, option_or}
use Rattle.tox_script.specs.Covering.{chains_for, chains_in, covers}
use Rattle.tox_script.specs.Rule.{Rules}
use Rattle.tox_script.specs.index.Numbered.{chains_numbered, covering_number}

pub position_from-append : {X : Type 0} (test : X → Bool) (n : ℕ) (xs ys : List X)
    → position_from test n (xs ++ ys) ≡ option_or (position_from test n xs) (position_from test (n + length xs) ys)
position_from-append test n [] ys = let none : n + 0 ≡ n = omega arith in ap (λ k. position_from test k ys) (sym none)
position_from-append test n (x ∷ xs) ys =
    let more : (n + 1) + length xs ≡ n + suc (length xs) = omega arith in
    at (test x) (position_from-append test (n + 1) xs ys ∙ ap (λ k. option_or (position_from test (n + 1) xs) (position_from test k ys)) more)
  where
    at : (passes : Bool) → position_from test (n + 1) (xs ++ ys) ≡ option_or (position_from test (n + 1) xs) (position_from test (n + suc (length xs)) ys)
        → cond passes (Some n) (position_from test (n + 1) (xs ++ ys)) ≡ option_or (cond passes (Some n) (position_from test (n + 1) xs))
        (position_from test (n + suc (length xs)) ys)
    at true later = refl
    at false later = later

-- the number in the front, or else in the back
pub overlaid : {X : Type 0} (test : X → Bool) (n : ℕ) (xs front back : List X) (a b : Option ℕ) → xs ≡ front ++ back → a ≡ position_from test n front
    → b ≡ position_from test (n + length front) back
    → option_or a b ≡ position_from test n xs
overlaid test n xs front back a b whole first second =
    ap (λ rule. option_or rule b) first ∙ ap (option_or (position_from test n front)) second
    ∙ sym (position_from-append test n front back) ∙ ap (position_from test n) (sym whole)

-- what follows of a value
pub IfOk-then : {A E : Type 0} {P Q : A → Type 0} (r : Result A E) → ((x : A) → P x → Q x) → IfOk r P → IfOk r Q
IfOk-then (Ok x) more holds = more x holds
IfOk-then (Err e) more holds = holds

pub position_from-map : {X Y : Type 0} (test : Y → Bool) (f : X → Y) (n : ℕ) (xs : List X)
    → position_from (λ x. test (f x)) n xs ≡ position_from test n (map f xs)
position_from-map test f n [] = refl
position_from-map test f n (x ∷ xs) = ap (cond (test (f x)) (Some n)) (position_from-map test f (n + 1) xs)

-- the element at the first place that passes is the first that does
find-position : {X : Type 0} (test : X → Bool) (at : ℕ → Option X) (n : ℕ) (xs : List X) → ((k : ℕ) → at (n + k) ≡ slice_get xs k)
    → option_and_then at (position_from test n xs) ≡ find test xs
find-position test at n [] reads = refl
find-position test at n (x ∷ xs) reads = cases (test x) (find-position test at (n + 1) xs rest)
  where
    here : at n ≡ Some x
    here = let none : n + 0 ≡ n = omega arith in ap at (sym none) ∙ reads 0

    rest : (k : ℕ) → at ((n + 1) + k) ≡ slice_get xs k
    rest k = let more : (n + 1) + k ≡ n + suc k = omega arith in ap at more ∙ reads (suc k)

    cases : (passes : Bool) → option_and_then at (position_from test (n + 1) xs) ≡ find test xs
        → option_and_then at (cond passes (Some n) (position_from test (n + 1) xs)) ≡ cond passes (Some x) (find test xs)
    cases true later = here
    cases false later = later

-- the rule of the number is the first that covers the connection
pub chains_numbered-covering : (proxy : List ℕ) (conn : ℕ) (script : Rules)
    → chains_numbered (covering_number proxy conn script) script ≡ chains_for proxy conn script
chains_numbered-covering proxy conn script =
    ap (chains_in script.settings.lanes) (
    find-position (covers proxy conn) (slice_get script.rules) 0 script.rules (λ k. let same : 0 + k ≡ k = omega arith in ap (slice_get script.rules) same)
    )
