-- Where the limit on the names stops a file.
use Rattle.std.proofs.Common.{◌≡◌, ℕ, zero, suc, ◌<◌, ◌≤◌, Bool, true, false, cond, not, ◌||◌, List, [], ◌∷◌, ◌++◌, Option, Some, None, Err, length, map}
use Rattle.std.proofs.Common.{slice_get, arith, refl, sym, ap, ◌∙◌, true≢false, append_assoc, append-nil, length-append}
use Rattle.std.specs.List.{list_any, position_or_len}
use Rattle.std.proofs.lemmas.List.{length-map}
use Rattle.std.proofs.lemmas.Map.Views.{any-filter_same}
use Rattle.std.proofs.lemmas.Option.{slice_get_past}
use Rattle.tox_config.specs.LentProxy.{put}
use Rattle.tox_config.specs.Proxy.{Proxy}
use Rattle.tox_config.specs.Populate.{Front, entries_of, is_named, last_named, most_names, names_of, populated, unless_fault}
use Rattle.tox_config.specs.declared.fault.ConfigFault.{ConfigFault}
use Rattle.tox_config.specs.declared.fault.ConfigFault.TheVariants.{TooMany}
use Rattle.tox_config.proofs.Names.{name-is_named, is_named-itself, is_named-same, is_named-other}
use Rattle.tox_config.proofs.Puts.{entries_of-push, name-last_named, others_of}

-- more proxies behind those that gave a front
abbrev pub onto : List Proxy → Front → Front
onto done front = record front { proxies = done ++ front.proxies }

-- a front of few names gives its entries, or its fault
pub populated-few : (done : List Proxy) (fault : Option ConfigFault) → length (entries_of done) ≤ most_names
    → populated (record { proxies = done; fault = fault }) ≡ unless_fault fault (entries_of done)
populated-few done fault few =
    let none : slice_get (names_of done) most_names ≡ None = slice_get_past (names_of done) most_names
    (omega (arith, length-map (entries_of done) (λ (p : Proxy). p.name))) in
    rw none refl

-- a proxy of a new name goes last
put-new : (p : Proxy) (qs : List Proxy) → list_any (is_named p.name) qs ≡ false → put p qs ≡ qs ++ p ∷ []
put-new p [] new = refl
put-new p (q ∷ qs) new = at (is_named p.name q) refl new (put-new p qs)
  where
    at : (b : Bool) → is_named p.name q ≡ b → (b || list_any (is_named p.name) qs) ≡ false → (list_any (is_named p.name) qs ≡ false → put p qs ≡ qs ++ p ∷ [])
        → put p (q ∷ qs) ≡ q ∷ qs ++ p ∷ []
    at true is known rest = absurd (true≢false known)
    at false is known rest = rw is (ap (λ others. q ∷ others) (rest known))

-- a proxy of a known name adds none
length-put_known : (p : Proxy) (qs : List Proxy) → list_any (is_named p.name) qs ≡ true → length (put p qs) ≡ length qs
length-put_known p [] known = absurd (true≢false (sym known))
length-put_known p (q ∷ qs) known = at (is_named p.name q) refl known (length-put_known p qs)
  where
    at : (b : Bool) → is_named p.name q ≡ b → (b || list_any (is_named p.name) qs) ≡ true
        → (list_any (is_named p.name) qs ≡ true → length (put p qs) ≡ length qs) → length (put p (q ∷ qs)) ≡ suc (length qs)
    at true is there rest = rw is refl
    at false is there rest = rw is (ap suc (rest there))

-- one more proxy leaves the names in their places
name-put : (p : Proxy) (qs : List Proxy) (k : ℕ) → k < length qs → slice_get (map (λ q. q.name) (put p qs)) k ≡ slice_get (map (λ q. q.name) qs) k
name-put p [] k within = absurd (omega arith)
name-put p (q ∷ qs) zero within = at (is_named p.name q) refl
  where
    at : (b : Bool) → is_named p.name q ≡ b → slice_get (map (λ o. o.name) (cond b (p ∷ qs) (q ∷ put p qs))) 0 ≡ Some q.name
    at true is = ap Some (sym (name-is_named p.name q is))
    at false is = refl
name-put p (q ∷ qs) (suc k) within = at (is_named p.name q) (name-put p qs k (omega arith))
  where
    at : (b : Bool) → slice_get (map (λ o. o.name) (put p qs)) k ≡ slice_get (map (λ o. o.name) qs) k
        → slice_get (map (λ o. o.name) (cond b (p ∷ qs) (q ∷ put p qs))) (suc k) ≡ slice_get (map (λ o. o.name) qs) k
    at true rest = refl
    at false rest = rest

-- one more proxy loses no entry
length-put : (p : Proxy) (qs : List Proxy) → length qs ≤ length (put p qs)
length-put p qs = at (list_any (is_named p.name) qs) refl
  where
    at : (b : Bool) → list_any (is_named p.name) qs ≡ b → length qs ≤ length (put p qs)
    at true known = omega (arith, length-put_known p qs known)
    at false new = omega (arith, length-append qs (p ∷ []), ap length (put-new p qs new))

-- more proxies leave the names in their places
names_of-append : (ys xs : List Proxy) (k : ℕ) → k < length (entries_of xs) → slice_get (names_of (xs ++ ys)) k ≡ slice_get (names_of xs) k
names_of-append [] xs k within = rw append-nil refl
names_of-append (y ∷ ys) xs k within =
    let more = entries_of-push xs y in
    let below : k < length (entries_of (xs ++ y ∷ [])) = omega (arith, ap length more, length-put y (entries_of xs)) in
    ap (λ ps. slice_get (names_of ps) k) (sym (append_assoc xs (y ∷ []) ys)) ∙ names_of-append ys (xs ++ y ∷ []) k below
    ∙ ap (λ es. slice_get (map (λ p. p.name) es) k) more ∙ name-put y (entries_of xs) k within

-- a name is among the entries where it is among the proxies
list_any-entries_of : (name : List ℕ) (xs : List Proxy) → list_any (is_named name) (entries_of xs) ≡ list_any (is_named name) xs
list_any-entries_of name [] = refl
list_any-entries_of name (x ∷ xs) = at (is_named name x) refl (list_any-entries_of name xs)
  where
    first : is_named name (last_named x xs) ≡ is_named name x
    first = is_named-same name (last_named x xs) x (name-last_named x xs)

    at : (b : Bool) → is_named name x ≡ b → list_any (is_named name) (entries_of xs) ≡ list_any (is_named name) xs
        → (is_named name (last_named x xs) || list_any (is_named name) (others_of x.name (entries_of xs))) ≡ (is_named name x || list_any (is_named name) xs)
    at true is rest = rw (first, is) refl
    at false is rest = rw (first, is) (any-filter_same (is_named name) (λ q. not (is_named x.name q)) true
        (λ q named. ap not (is_named-other name x q is named)) (entries_of xs) ∙ rest)

-- the first place that passes is behind the elements that do not
position_or_len-new : {X : Type 0} (t : X → Bool) (xs : List X) (y : X) (ys : List X) → list_any t xs ≡ false → t y ≡ true
    → position_or_len t (xs ++ y ∷ ys) ≡ length xs
position_or_len-new t [] y ys new here = rw here refl
position_or_len-new t (x ∷ xs) y ys new here = at (t x) refl new (λ n. position_or_len-new t xs y ys n here)
  where
    at : (b : Bool) → t x ≡ b → (b || list_any t xs) ≡ false → (list_any t xs ≡ false → position_or_len t (xs ++ y ∷ ys) ≡ length xs)
        → position_or_len t (x ∷ xs ++ y ∷ ys) ≡ suc (length xs)
    at true is known rest = absurd (true≢false known)
    at false is known rest = rw (is, rest known) (omega arith)

-- the name of a proxy that goes last
name-push : (qs : List Proxy) (p : Proxy) (n : ℕ) → length qs ≡ n → slice_get (map (λ q. q.name) (qs ++ p ∷ [])) n ≡ Some p.name
name-push [] p zero long = refl
name-push [] p (suc n) long = absurd (omega arith)
name-push (q ∷ qs) p zero long = absurd (omega arith)
name-push (q ∷ qs) p (suc n) long = name-push qs p n (omega arith)

-- the proxy that brings one name too many is refused at its place
pub populated-many : (done : List Proxy) (p : Proxy) (front : Front) → length (entries_of done) ≤ most_names → most_names < length (entries_of (done ++ p ∷ []))
    → populated (onto (done ++ p ∷ []) front) ≡ Err (TooMany (length done))
populated-many done p front few many = at (list_any (is_named p.name) (entries_of done)) refl
  where
    at : (b : Bool) → list_any (is_named p.name) (entries_of done) ≡ b → populated (onto (done ++ p ∷ []) front) ≡ Err (TooMany (length done))
    at true known = absurd (omega (arith, ap length (entries_of-push done p), length-put_known p (entries_of done) known))
    at false new =
        let proxies = front.proxies in
        let last : entries_of (done ++ p ∷ []) ≡ entries_of done ++ p ∷ [] = entries_of-push done p ∙ put-new p (entries_of done) new in
        let full : length (entries_of done) ≡ most_names = omega (arith, ap length last, length-append (entries_of done) (p ∷ [])) in
        let name : slice_get (names_of ((done ++ p ∷ []) ++ proxies)) most_names ≡ Some p.name =
        names_of-append proxies (done ++ p ∷ []) most_names many ∙ ap (λ es. slice_get (map (λ q. q.name) es) most_names) last
        ∙ name-push (entries_of done) p most_names full in
        let place : position_or_len (is_named p.name) ((done ++ p ∷ []) ++ proxies) ≡ length done =
        ap (position_or_len (is_named p.name)) (append_assoc done (p ∷ []) proxies)
        ∙ position_or_len-new (is_named p.name) done p proxies (sym (list_any-entries_of p.name done) ∙ new) (is_named-itself p) in
        rw name (ap (λ n. Err (TooMany n)) place)
