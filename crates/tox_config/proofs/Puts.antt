-- What one more proxy changes in the entries: it takes the place of the one of its name, or goes last.
use Rattle.std.proofs.Common.{◌≡◌, ℕ, zero, suc, ◌+◌, ◌<◌, ◌≤◌, Bool, true, false, cond, not, List, [], ◌∷◌, ◌++◌, None, true≢false, filter, fold, get_or}
use Rattle.std.proofs.Common.{length, map, position, set, arith, refl, sym, ap, ◌∙◌}
use Rattle.std.specs.List.{position_or_len}
use Rattle.std.proofs.lemmas.Bool.Decides.{nat_tests}
use Rattle.std.proofs.lemmas.List.Sums.{fold-append}
use Rattle.tox_config.specs.LentProxy.{put}
use Rattle.tox_config.specs.Proxy.{Proxy}
use Rattle.tox_config.specs.Populate.{entries_of, is_named, last_named}
use Rattle.tox_config.proofs.Names.{name-is_named, is_named-sym, is_named-same}

-- the proxies of other names
abbrev pub others_of : List ℕ → List Proxy → List Proxy
others_of name proxies = filter (λ q. not (is_named name q)) proxies

-- the last proxy of a name, where the first may be another
abbrev last_from : List ℕ → Proxy → List Proxy → Proxy
last_from name p others = fold (λ last q. cond (is_named name q) q last) p others

-- the later one, where it has the name, has the name
name-cond : (name : List ℕ) (p q : Proxy) (b : Bool) → is_named name q ≡ b → p.name ≡ name → (cond b q p).name ≡ name
name-cond name p q true is same = name-is_named name q is
name-cond name p q false is same = same

-- the last one that has the name has it, where the first has it
name-last_from : (name : List ℕ) (p : Proxy) (others : List Proxy) → p.name ≡ name → (last_from name p others).name ≡ name
name-last_from name p [] same = same
name-last_from name p (q ∷ qs) same = name-last_from name (cond (is_named name q) q p) qs (name-cond name p q (is_named name q) refl same)

-- the last proxy of a name has the name
pub name-last_named : (p : Proxy) (others : List Proxy) → (last_named p others).name ≡ p.name
name-last_named p others = name-last_from p.name p others refl

-- one more proxy of a name changes nothing in the others
others_of-put_same : (name : List ℕ) (p : Proxy) (qs : List Proxy) → is_named name p ≡ true → others_of name (put p qs) ≡ others_of name qs
others_of-put_same name p [] named = rw named refl
others_of-put_same name p (q ∷ qs) named = at (is_named p.name q) refl (others_of-put_same name p qs named)
  where
    at : (b : Bool) → is_named p.name q ≡ b → others_of name (put p qs) ≡ others_of name qs
        → others_of name (cond b (p ∷ qs) (q ∷ put p qs)) ≡ others_of name (q ∷ qs)
    at true is rest = let same : is_named name q ≡ true = is_named-same name q p (name-is_named p.name q is) ∙ named in rw (named, same) refl
    at false is rest = ap (λ others. cond (not (is_named name q)) (q ∷ others) others) rest

-- one more proxy of another name goes into the others
others_of-put_other : (name : List ℕ) (p : Proxy) (qs : List Proxy) → is_named name p ≡ false → others_of name (put p qs) ≡ put p (others_of name qs)
others_of-put_other name p [] other = rw other refl
others_of-put_other name p (q ∷ qs) other = at (is_named p.name q) (is_named name q) refl refl (others_of-put_other name p qs other)
  where
    at : (b c : Bool) → is_named p.name q ≡ b → is_named name q ≡ c → others_of name (put p qs) ≡ put p (others_of name qs)
        → others_of name (cond b (p ∷ qs) (q ∷ put p qs)) ≡ put p (cond (not c) (q ∷ others_of name qs) (others_of name qs))
    at true true is named rest = absurd (true≢false (sym named ∙ is_named-same name q p (name-is_named p.name q is) ∙ other))
    at true false is named rest = rw (other, is) refl
    at false true is named rest = rw named rest
    at false false is named rest = rw (named, is) (ap (λ others. q ∷ others) rest)

-- the entries with one more proxy
pub entries_of-push : (xs : List Proxy) (p : Proxy) → entries_of (xs ++ p ∷ []) ≡ put p (entries_of xs)
entries_of-push [] p = refl
entries_of-push (x ∷ xs) p = at (is_named x.name p) refl (entries_of-push xs p)
  where
    later : last_named x (xs ++ p ∷ []) ≡ cond (is_named x.name p) p (last_named x xs)
    later = fold-append (λ last q. cond (is_named x.name q) q last) x xs (p ∷ [])

    first : is_named p.name (last_named x xs) ≡ is_named x.name p
    first = is_named-same p.name (last_named x xs) x (name-last_named x xs) ∙ is_named-sym p x

    at : (b : Bool) → is_named x.name p ≡ b → entries_of (xs ++ p ∷ []) ≡ put p (entries_of xs) → entries_of (x ∷ xs ++ p ∷ []) ≡ put p (entries_of (x ∷ xs))
    at true is rest = rw (later, rest, first, is) (ap (λ others. p ∷ others) (others_of-put_same x.name p (entries_of xs) is))
    at false is rest = rw (later, rest, first, is) (ap (λ others. last_named x xs ∷ others) (others_of-put_other x.name p (entries_of xs) is))

-- a proxy that is put over the first of its name
pub put-found : {X : Type 0} (f : X → Proxy) (e : X) (xs : List X) (i : ℕ) → i < length xs → is_named (f e).name (f (get_or xs i e)) ≡ true
    → ((k : ℕ) → k < i → is_named (f e).name (f (get_or xs k e)) ≡ false) → map f (set xs i e) ≡ put (f e) (map f xs)
put-found f e [] i within here before = absurd (omega arith)
put-found f e (x ∷ xs) zero within here before = rw here refl
put-found f e (x ∷ xs) (suc i) within here before =
    let other : is_named (f e).name (f x) ≡ false = before 0 (omega arith) in
    rw other (ap (λ rest. f x ∷ rest) (put-found f e xs i (omega arith) here (λ k below. before (suc k) (omega arith))))

-- a proxy that is put last, since none has its name
pub put-missing : {X : Type 0} (f : X → Proxy) (e : X) (xs : List X) → length xs ≤ position_or_len (λ x. is_named (f e).name (f x)) xs
    → map f (xs ++ e ∷ []) ≡ put (f e) (map f xs)
put-missing f e [] none = refl
put-missing f e (x ∷ xs) none = at (is_named (f e).name (f x)) refl none (put-missing f e xs)
  where
    at : (b : Bool) → is_named (f e).name (f x) ≡ b → suc (length xs) ≤ cond (not b) (1 + position_or_len (λ y. is_named (f e).name (f y)) xs) 0
        → (length xs ≤ position_or_len (λ y. is_named (f e).name (f y)) xs → map f (xs ++ e ∷ []) ≡ put (f e) (map f xs))
        → map f (x ∷ xs ++ e ∷ []) ≡ put (f e) (map f (x ∷ xs))
    at true is far rest = absurd (omega arith)
    at false is far rest = rw is (ap (λ others. f x ∷ others) (rest (omega arith)))

-- where no element passes, the first place that passes is past the end
pub position-None : {X : Type 0} (t : X → Bool) (xs : List X) → position t xs ≡ None → length xs ≤ position_or_len t xs
position-None t xs none = grind (arith, nat_tests)
