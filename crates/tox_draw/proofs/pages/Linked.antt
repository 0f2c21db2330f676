-- How many links a set of their names has.
use Rattle.std.proofs.Common.{◌≡◌, ℕ, ◌+◌, ◌||◌, Bool, true, false, cond, List, [], ◌∷◌, ◌++◌, map, length, take, get_or, refl, ap, ap₂, sym, ◌∙◌}
use Rattle.std.specs.Cmp.{IsEquivalence}
use Rattle.std.specs.List.{AllByRecursion, IsDistinct, list_any}
use Rattle.std.specs.Set.{distinct_count, is_member}
use Rattle.std.proofs.lemmas.Cmp.{and_equiv, nat_eq_equiv, nat_list_eq_equiv, on_equiv}
use Rattle.std.proofs.lemmas.List.{length-map, map-append, take_more}
use Rattle.std.proofs.lemmas.List.Folds.{list_any-append}
use Rattle.std.proofs.lemmas.Map.Keys.{IsDistinct-cons, IsDistinct-head, IsDistinct-tail}
use Rattle.std.proofs.lemmas.Map.Made.{IsDistinct-from_count, length-from_keys}
use Rattle.tox_text.proofs.Listed.{IsAt}
use Rattle.tox_draw.specs.declared.pages.row.Row.{Row}
use Rattle.tox_draw.specs.pages.Links.{Link, link_of, same_link}

same_link_equiv : IsEquivalence same_link
same_link_equiv = and_equiv (on_equiv (λ (l : Link). l.0) nat_list_eq_equiv) (on_equiv (λ (l : Link). l.1) nat_eq_equiv)

-- the links of one row more
pub links_of-more : (rows : List Row) (i : ℕ) (row : Row) → IsAt rows i row → map link_of (take (i + 1) rows) ≡ map link_of (take i rows) ++ link_of row ∷ []
links_of-more rows i row here =
    ap (map link_of) (take_more rows i here.default here.below)
    ∙ map-append link_of (take i rows) (get_or rows i here.default ∷ [])
    ∙ ap (λ (r : Row). map link_of (take i rows) ++ link_of r ∷ []) (sym here.is)

either : (new before : Bool) → cond new true before ≡ (before || (new || false))
either true true = refl
either true false = refl
either false true = refl
either false false = refl

-- a link more is there
pub is_member-more : (links : List Link) (link name : Link) (before after : Bool) → before ≡ is_member same_link links name
    → after ≡ cond (same_link link name) true before
    → after ≡ is_member same_link (links ++ link ∷ []) name
is_member-more links link name before after was is =
    is ∙ ap₂ (λ new b. cond new true b) (same_link_equiv.symm link name) was ∙ either (same_link name link) (is_member same_link links name)
    ∙ sym (list_any-append (same_link name) links (link ∷ []))

-- keys that each name a link
module _ {K : Type 0} (eq : K → K → Bool) (link : K → Link) (key : Link → K) (names : (l : Link) → link (key l) ≡ l)
    (same : (a b : K) → eq a b ≡ same_link (link a) (link b)) where
  any_named : (l : Link) (q : K) → link q ≡ l → (keys : List K) → list_any (same_link l) (map link keys) ≡ list_any (eq q) keys
  any_named l q is [] = refl
  any_named l q is (k ∷ keys) = ap₂ (λ a b. a || b) (ap (λ r. same_link r (link k)) (sym is) ∙ sym (same q k)) (any_named l q is keys)

  all_apart : (k : K) (keys : List K) → AllByRecursion (λ y. eq k y ≡ false) keys → AllByRecursion (λ y. same_link (link k) y ≡ false) (map link keys)
  all_apart k [] apart = tt
  all_apart k (x ∷ keys) apart = (sym (same k x) ∙ apart.0, all_apart k keys apart.1)

  distinct_named : (keys : List K) → IsDistinct eq keys → IsDistinct same_link (map link keys)
  distinct_named [] distinct = IsDistinct-from_count same_link_equiv [] refl
  distinct_named (k ∷ keys) distinct =
      IsDistinct-cons same_link (link k) (map link keys) (all_apart k keys (IsDistinct-head eq k keys distinct))
      (distinct_named keys (IsDistinct-tail eq k keys distinct))

  -- a set of keys holds just these links
  pub length-links : (keys : List K) (links : List Link) → IsDistinct eq keys → ((q : K) → list_any (eq q) keys ≡ is_member same_link links (link q))
      → length keys ≡ distinct_count same_link links
  length-links keys links distinct holds =
      sym (length-map keys link)
      ∙ length-from_keys same_link_equiv (map link keys) links (distinct_named keys distinct)
      (λ l. any_named l (key l) (names l) keys ∙ holds (key l) ∙ ap (is_member same_link links) (names l))
