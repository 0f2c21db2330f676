-- The entries that are given have distinct names, and are few.
use Rattle.std.proofs.Common.{◌≡◌, ℕ, zero, suc, ◌≤◌, Bool, true, false, cond, not, List, [], ◌∷◌, Option, Some, None, Ok, length, map, slice_get, arith, refl}
use Rattle.std.proofs.Common.{◌∙◌}
use Rattle.std.specs.List.{AllByRecursion, IsDistinct}
use Rattle.std.specs.Str.{bytes_eq}
use Rattle.std.proofs.lemmas.List.{length-map}
use Rattle.tox_config.specs.Proxy.{Proxy}
use Rattle.tox_config.specs.Populate.{Front, entries_of, is_named, most_names, names_of, populated, unless_fault, unless_too_many}
use Rattle.tox_config.specs.declared.fault.ConfigFault.{ConfigFault}
use Rattle.tox_config.proofs.Names.{is_named-sym}
use Rattle.tox_config.proofs.Puts.{name-last_named, others_of}

-- the names of proxies
abbrev names : List Proxy → List (List ℕ)
names qs = map (λ q. q.name) qs

-- the others have other names
others_differ : (p : Proxy) (qs : List Proxy) → AllByRecursion (λ name. bytes_eq p.name name ≡ false) (names (others_of p.name qs))
others_differ p [] = tt
others_differ p (q ∷ qs) = at (is_named p.name q) refl (others_differ p qs)
  where
    at : (b : Bool) → is_named p.name q ≡ b → AllByRecursion (λ name. bytes_eq p.name name ≡ false) (names (others_of p.name qs))
        → AllByRecursion (λ name. bytes_eq p.name name ≡ false) (names (cond (not b) (q ∷ others_of p.name qs) (others_of p.name qs)))
    at true is rest = rest
    at false is rest = (is_named-sym q p ∙ is, rest)

-- what all names have, the others' have
others_keep : (P : List ℕ → Type 0) (name : List ℕ) (qs : List Proxy) → AllByRecursion P (names qs) → AllByRecursion P (names (others_of name qs))
others_keep P name [] all = tt
others_keep P name (q ∷ qs) all = at (is_named name q) (others_keep P name qs all.1)
  where
    at : (b : Bool) → AllByRecursion P (names (others_of name qs)) → AllByRecursion P (names (cond (not b) (q ∷ others_of name qs) (others_of name qs)))
    at true rest = rest
    at false rest = (all.0, rest)

-- the others' names are distinct where all are
others_distinct : (name : List ℕ) (qs : List Proxy) → IsDistinct bytes_eq (names qs) → IsDistinct bytes_eq (names (others_of name qs))
unfolding IsDistinct
others_distinct name [] distinct = tt
others_distinct name (q ∷ qs) distinct = at (is_named name q) (others_distinct name qs distinct.1)
  where
    at : (b : Bool) → IsDistinct bytes_eq (names (others_of name qs)) → IsDistinct bytes_eq (names (cond (not b) (q ∷ others_of name qs) (others_of name qs)))
    at true rest = rest
    at false rest = (others_keep (λ other. bytes_eq q.name other ≡ false) name qs distinct.0, rest)

-- each name stands once
names_of-distinct : (ps : List Proxy) → IsDistinct bytes_eq (names_of ps)
unfolding IsDistinct
names_of-distinct [] = tt
names_of-distinct (p ∷ ps) = rw (name-last_named p ps) (others_differ p (entries_of ps), others_distinct p.name (entries_of ps) (names_of-distinct ps))

-- entries that are given have distinct names, and are few
record AreEntries (entries : List Proxy) : Type 0 where
  distinct : IsDistinct bytes_eq (names entries)
  few : length entries ≤ most_names

-- where nothing stands at a place, the list ends before it
ends_before : {X : Type 0} (xs : List X) (n : ℕ) → slice_get xs n ≡ None → length xs ≤ n
ends_before [] n none = omega arith
ends_before (x ∷ xs) zero none = absurd (cc)
ends_before (x ∷ xs) (suc n) none = omega (arith, ends_before xs n none)

-- what is given where no fault was met
unless_fault-Ok : (fault : Option ConfigFault) (found entries : List Proxy) → unless_fault fault found ≡ Ok entries → found ≡ entries
unless_fault-Ok None found entries gives = cc
unless_fault-Ok (Some fault) found entries gives = absurd (cc)

-- by what stands behind the last name that is allowed
given : (front : Front) (further : Option (List ℕ)) → slice_get (names_of front.proxies) most_names ≡ further → (entries : List Proxy)
    → unless_too_many further front ≡ Ok entries → AreEntries entries
given front (Some name) is entries gives = absurd (cc)
given front None is entries gives =
    let proxies = front.proxies in
    let found : entries_of proxies ≡ entries = unless_fault-Ok front.fault (entries_of proxies) entries gives in
    let few : length (names_of proxies) ≤ most_names = ends_before (names_of proxies) most_names is in
    rw (← found) (record { distinct = names_of-distinct proxies; few = omega (arith, few, length-map (entries_of proxies) (λ (p : Proxy). p.name)) })

-- what a front gives are such entries
AreEntries-populated : (front : Front) (entries : List Proxy) → populated front ≡ Ok entries → AreEntries entries
AreEntries-populated front entries gives = given front (slice_get (names_of front.proxies) most_names) refl entries gives

-- what a front gives has distinct names
pub distinct-defs : (front : Front) (entries : List Proxy) → populated front ≡ Ok entries → IsDistinct bytes_eq (map (λ p. p.name) entries)
distinct-defs front entries gives = (AreEntries-populated front entries gives).distinct

-- and is short
pub few-defs : (front : Front) (entries : List Proxy) → populated front ≡ Ok entries → length entries ≤ most_names
few-defs front entries gives = (AreEntries-populated front entries gives).few
