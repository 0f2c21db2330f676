-- The trees of proxies, and the runs of a name.
use Rattle.std.proofs.Common.{◌≡◌, ◌≢◌, ℕ, suc, ◌+◌, ◌<◌, inl, inr, Bool, true, false, cond, not, List, [], ◌∷◌, ◌++◌, get_or, length, nat_lt, Option, None}
use Rattle.std.proofs.Common.{Some, arith, refl, sym, ap, ◌∙◌, subst}
use Rattle.std.specs.List.{find, position, position_or_len}
use Rattle.std.proofs.lemmas.Bool.{cases_Bool, ltb-false, ltb-true}
use Rattle.std.proofs.lemmas.List.Folds.{find_at}
use Rattle.std.proofs.lemmas.Option.{slice_get_past}
use Rattle.std.proofs.lemmas.Slice.Eq.{bytes_eq-Decides}
use Rattle.tox_config.specs.Populate.{is_named}
use Rattle.tox_config.specs.Proxy.{Proxy}
use Rattle.tox_script.specs.Rule.{Rules}
use Rattle.tox_check.specs.Checking.{AreRuns, met}
use Rattle.tox_check.specs.Runs.{IsRuns}
use Rattle.tox_check.specs.RuleWarnings.{runs_by}
use Rattle.tox_check.specs.Trees.{AreTrees, HoldsRuns, runs_named}
use Rattle.tox_check.specs.declared.tree.RunTree.{RunTree}

pub AreTrees-push : (script : Rules) (proxies : List Proxy) (proxy : Proxy) (trees : List (Option RunTree)) (tree : Option RunTree)
    → AreTrees script proxies trees → HoldsRuns script proxy.name tree
    → AreTrees script (proxies ++ proxy ∷ []) (trees ++ tree ∷ [])
AreTrees-push script [] proxy [] tree are holds = (holds, refl)
AreTrees-push script [] proxy (other ∷ trees) tree are holds = absurd (cc)
AreTrees-push script (other ∷ proxies) proxy [] tree are holds = absurd are
AreTrees-push script (other ∷ proxies) proxy (first ∷ trees) tree are holds = (are.0, AreTrees-push script proxies proxy trees tree are.1 holds)

pub AreTrees-length : (script : Rules) (proxies : List Proxy) (trees : List (Option RunTree)) → AreTrees script proxies trees → length trees ≡ length proxies
AreTrees-length script [] trees are = ap length are
AreTrees-length script (proxy ∷ proxies) [] are = absurd are
AreTrees-length script (proxy ∷ proxies) (tree ∷ trees) are = ap suc (AreTrees-length script proxies trees are.1)

pub AreRuns-trees : (script : Rules) (proxies : List Proxy) (trees : List (Option RunTree)) → AreTrees script proxies trees
    → AreRuns proxies script (runs_named proxies trees)
AreRuns-trees script [] trees are = λ name there. absurd (there refl)
AreRuns-trees script (proxy ∷ proxies) [] are = absurd are
AreRuns-trees script (proxy ∷ proxies) (tree ∷ trees) are = λ name there.
    at name (is_named name proxy) refl (AreRuns-trees script proxies trees are.1 name) there
  where
    at : (name : List ℕ) (named : Bool) → is_named name proxy ≡ named →
        (find (is_named name) proxies ≢ None → IsRuns (met name script) 1 (runs_named proxies trees name))
        → cond named (Some proxy) (find (is_named name) proxies) ≢ None → IsRuns (met name script) 1 (cond named (runs_by tree) (runs_named proxies trees name))
    at name true named others there = subst (λ n. IsRuns (met n script) 1 (runs_by tree)) ((bytes_eq-Decides proxy.name name).0 named) are.0.runs
    at name false named others there = others there

-- the first proxy of a name stands at a place, and its tree too
pub record StandsAt (script : Rules) (name : List ℕ) (proxies : List Proxy) (trees : List (Option RunTree)) (d : Proxy) (e : Option RunTree) (place : ℕ) : Type
    0 where
  pub found : find (is_named name) proxies ≡ Some (get_or proxies place d)
  pub runs : runs_named proxies trees name ≡ runs_by (get_or trees place e)
  pub holds : HoldsRuns script (get_or proxies place d).name (get_or trees place e)

StandsAt-first : (script : Rules) (name : List ℕ) (proxies : List Proxy) (trees : List (Option RunTree)) (d : Proxy) (e : Option RunTree)
    → AreTrees script proxies trees → position_or_len (is_named name) proxies < length proxies
    → StandsAt script name proxies trees d e (position_or_len (is_named name) proxies)
StandsAt-first script name [] trees d e are below = absurd (omega arith)
StandsAt-first script name (proxy ∷ proxies) [] d e are below = absurd are
StandsAt-first script name (proxy ∷ proxies) (tree ∷ trees) d e are below =
    let k = position_or_len (is_named name) proxies in
    elim (cases_Bool (is_named name proxy)) [
      | inl here ↦
          let place : position_or_len (is_named name) (proxy ∷ proxies) ≡ 0 = ap (λ b. cond (not b) (1 + k) 0) here in
          subst (StandsAt script name (proxy ∷ proxies) (tree ∷ trees) d e) (sym place) (record {
            found = ap (λ b. cond b (Some proxy) (find (is_named name) proxies)) here;
            runs = ap (λ b. cond b (runs_by tree) (runs_named proxies trees name)) here;
            holds = are.0;
          })
      | inr later ↦
          let more : 1 + k ≡ suc k = omega arith in
          let place : position_or_len (is_named name) (proxy ∷ proxies) ≡ suc k = ap (λ b. cond (not b) (1 + k) 0) later ∙ more in
          let past : suc k < suc (length proxies) = subst (λ i. i < suc (length proxies)) place below in
          let rest = StandsAt-first script name proxies trees d e are.1 (omega arith) in
          subst (StandsAt script name (proxy ∷ proxies) (tree ∷ trees) d e) (sym place) (record {
            found = ap (λ b. cond b (Some proxy) (find (is_named name) proxies)) later ∙ rest.found;
            runs = ap (λ b. cond b (runs_by tree) (runs_named proxies trees name)) later ∙ rest.runs;
            holds = rest.holds;
          })
    ]

-- where the first that passes is found
pub position-some : {X : Type 0} (test : X → Bool) (xs : List X) (place : ℕ) → position test xs ≡ Some place
    → (position_or_len test xs ≡ place) × (place < length xs)
position-some test xs place found = at (nat_lt (position_or_len test xs) (length xs)) refl found
  where
    at : (below : Bool) → nat_lt (position_or_len test xs) (length xs) ≡ below → cond below (Some (position_or_len test xs)) None ≡ Some place
        → (position_or_len test xs ≡ place) × (place < length xs)
    at true below found =
        let same : position_or_len test xs ≡ place = cc in
        let within : position_or_len test xs < length xs = ltb-true (position_or_len test xs) (length xs) below in
        (same, omega arith)
    at false past found = absurd (cc)

pub position-none : {X : Type 0} (test : X → Bool) (xs : List X) → position test xs ≡ None → find test xs ≡ None
position-none test xs none = at (nat_lt (position_or_len test xs) (length xs)) refl none
  where
    at : (below : Bool) → nat_lt (position_or_len test xs) (length xs) ≡ below → cond below (Some (position_or_len test xs)) None ≡ None → find test xs ≡ None
    at true below none = absurd (cc)
    at false past none = find_at test xs ∙ slice_get_past xs (position_or_len test xs) (ltb-false (position_or_len test xs) (length xs) past)

-- the proxy of a name stands at the place that was found, and its tree too
pub StandsAt-position : (script : Rules) (name : List ℕ) (proxies : List Proxy) (trees : List (Option RunTree)) (d : Proxy) (e : Option RunTree) (place : ℕ)
    → AreTrees script proxies trees → position (is_named name) proxies ≡ Some place
    → StandsAt script name proxies trees d e place
StandsAt-position script name proxies trees d e place are found =
    let at = position-some (is_named name) proxies place found in
    let same = at.0 in
    let within = at.1 in
    subst (StandsAt script name proxies trees d e) same (StandsAt-first script name proxies trees d e are (omega arith))
