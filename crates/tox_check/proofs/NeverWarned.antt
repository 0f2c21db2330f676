-- A rule is said never to apply exactly where no connection meets it.
use Rattle.std.proofs.Common.{◌≡◌, ◌≢◌, ℕ, ◌+◌, ◌-◌, ◌||◌, Bool, true, false, cond, List, [], ◌∷◌, ◌++◌, flat_map, slice_get, Option, None, Some, arith, refl}
use Rattle.std.proofs.Common.{sym, ap, ◌∙◌}
use Rattle.std.specs.List.{find, list_any}
use Rattle.std.specs.Prelude.{◌↔◌, IsTrue, option_map}
use Rattle.std.proofs.lemmas.Bool.{false≢true, or_from}
use Rattle.std.proofs.lemmas.List.Folds.{list_any-append}
use Rattle.tox_config.specs.Populate.{is_named}
use Rattle.tox_config.specs.Proxy.{Proxy}
use Rattle.tox_check.specs.forecast.Totals.{PlacedToxic}
use Rattle.tox_script.specs.chains.Chains.{on}
use Rattle.tox_script.specs.declared.chains.Chains.{Chains}
use Rattle.tox_script.specs.Rule.{Rule, Rules}
use Rattle.tox_check.specs.Checking.{AreRuns, NeverApplies, TellsNever, met}
use Rattle.tox_check.specs.Coverage.{last_of, own_of, taken_of, within}
use Rattle.tox_check.specs.Idle.{idleness_at}
use Rattle.tox_check.specs.Lines.{coverage_warnings, idle_warnings, is_seldom, is_silent, known_warnings, met_warnings, partly_warnings, proxy_warnings}
use Rattle.tox_check.specs.Lines.{toxic_warnings, toxics_warnings}
use Rattle.tox_check.specs.Sentences.{disabled_text, no_toxicity_text, tells_never}
use Rattle.tox_check.specs.declared.idleness.Idleness.{Idleness}
use Rattle.tox_check.specs.declared.run.Run.{Run}
use Rattle.tox_check.proofs.CoveredBy.{covering_number-own, met-number}
use Rattle.tox_check.proofs.NeverMet.{none_meets, none_own}

-- no other line tells so
idle_other : (number : ℕ) (found : Option Idleness) (seldom : Bool) → list_any tells_never (idle_warnings number found seldom) ≡ false
idle_other number None true = refl
idle_other number None false = refl
idle_other number (Some why) seldom = refl

toxic_other : (decimals : List Bool) (chains : Chains) (placed : PlacedToxic) → list_any tells_never (toxic_warnings decimals chains placed) ≡ false
toxic_other decimals chains placed =
    elim (is_silent (slice_get (on placed.stream chains).chain.entries placed.place)) as
    (λ silent. list_any tells_never (cond silent (no_toxicity_text placed.number ∷ [])
    (idle_warnings placed.number (idleness_at placed.place (on placed.stream chains).chain.entries)
    (is_seldom (slice_get decimals (placed.number - 1)) (slice_get (on placed.stream chains).chain.entries placed.place)))) ≡ false) [
      | true ↦ refl
      | false ↦ idle_other placed.number (idleness_at placed.place (on placed.stream chains).chain.entries)
          (is_seldom (slice_get decimals (placed.number - 1)) (slice_get (on placed.stream chains).chain.entries placed.place))
    ]

toxics_other : (decimals : List Bool) (chains : Chains) (placed : List PlacedToxic)
    → list_any tells_never (flat_map (toxic_warnings decimals chains) placed) ≡ false
toxics_other decimals chains [] = refl
toxics_other decimals chains (toxic ∷ placed) =
    list_any-append tells_never (toxic_warnings decimals chains toxic) (flat_map (toxic_warnings decimals chains) placed)
    ∙ or_from _ _ (toxic_other decimals chains toxic) (toxics_other decimals chains placed)

proxy_other : (proxy : Proxy) → list_any tells_never (proxy_warnings proxy) ≡ false
proxy_other proxy = elim (proxy.enabled) as (λ enabled. list_any tells_never (cond enabled [] (disabled_text proxy.name ∷ [])) ≡ false)
    [ true ↦ refl | false ↦ refl ]

partly_other : (own taken : List Run) → list_any tells_never (partly_warnings own taken) ≡ false
partly_other own [] = refl
partly_other own (run ∷ taken) = refl

-- a rule with no own runs is said never to apply
coverage-none : (number : ℕ) (own taken : List Run) → own ≡ [] → list_any tells_never (coverage_warnings number own taken) ≡ true
coverage-none number [] taken none = refl
coverage-none number (run ∷ own) taken none = absurd (cc)

coverage-some : (number : ℕ) (own taken : List Run) → list_any tells_never (coverage_warnings number own taken) ≡ true → own ≡ []
coverage-some number [] taken warning_text = refl
coverage-some number (run ∷ own) taken warning_text = absurd (false≢true (sym (partly_other (run ∷ own) taken) ∙ warning_text))

others_not : (front back last : List (List ℕ)) → list_any tells_never back ≡ false → list_any tells_never last ≡ false
    → list_any tells_never (front ++ (back ++ last)) ≡ list_any tells_never front
others_not front back last no_back no_last =
    list_any-append tells_never front (back ++ last)
    ∙ ap (λ b. list_any tells_never front || b) (list_any-append tells_never back last
    ∙ or_from (list_any tells_never back) (list_any tells_never last) no_back no_last)
    ∙ elim (list_any tells_never front) as (λ b. (b || false) ≡ b) [ true ↦ refl | false ↦ refl ]

module _ (proxies : List Proxy) (script : Rules) (runs : List ℕ → List Run) (are : AreRuns proxies script runs) (number : ℕ) (rule : Rule)
    (is : slice_get script.rules number ≡ Some rule) where
  -- its proxy isn't there
  never_unknown : find (is_named rule.proxy) proxies ≡ None → NeverApplies proxies script number
  never_unknown none = λ name conn known from to meets.
      let own = covering_number-own name conn script number rule meets is in
      known (ap (λ n. find (is_named n) proxies) (sym own.proxy) ∙ none)

  -- its proxy is there, and it has no own runs
  never_owned : find (is_named rule.proxy) proxies ≢ None → own_of (number + 1) (within rule.first (last_of rule.last) (runs rule.proxy)) ≡ []
      → NeverApplies proxies script number
  never_owned there none = λ name conn known from to meets.
      let own = covering_number-own name conn script number rule meets is in
      none_meets (met rule.proxy script) (number + 1) rule.first (last_of rule.last) 1 (runs rule.proxy) (are rule.proxy there) none conn from to own.begins
      (own.ends to)
      (ap (λ n. met n script conn) own.proxy ∙ ap (option_map (λ n. n + 1)) meets)

  owns_none : find (is_named rule.proxy) proxies ≢ None → NeverApplies proxies script number
      → own_of (number + 1) (within rule.first (last_of rule.last) (runs rule.proxy)) ≡ []
  owns_none there never =
      none_own (met rule.proxy script) (number + 1) rule.first (last_of rule.last) 1 (runs rule.proxy) (are rule.proxy there) (omega arith)
      (λ conn from to meets. never rule.proxy conn there from to (met-number rule.proxy script conn number meets))

  -- whatever proxy was found
  tells_found : (found : Option Proxy) → find (is_named rule.proxy) proxies ≡ found
      → IsTrue (list_any tells_never (known_warnings proxies (number + 1) rule (runs rule.proxy) found)) ↔ NeverApplies proxies script number
  tells_found None none = (λ warning_text. never_unknown none, λ never. refl)
  tells_found (Some proxy) some =
      let there : find (is_named rule.proxy) proxies ≢ None = λ none. absurd (cc) in
      let kept = within rule.first (last_of rule.last) (runs rule.proxy) in
      let only = others_not (met_warnings (number + 1) kept) (toxics_warnings rule.decimals rule.chains rule.order) (proxy_warnings proxy)
      (toxics_other rule.decimals rule.chains _) (proxy_other proxy) in (
        λ warning_text. never_owned there (coverage-some (number + 1) (own_of (number + 1) kept) (taken_of (number + 1) kept) (sym only ∙ warning_text)),
        λ never. only ∙ coverage-none (number + 1) (own_of (number + 1) kept) (taken_of (number + 1) kept) (owns_none there never),
      )

pub TellsNever-runs : (proxies : List Proxy) (script : Rules) (runs : List ℕ → List Run) → AreRuns proxies script runs → TellsNever proxies script runs
TellsNever-runs proxies script runs are = λ number rule is. tells_found proxies script runs are number rule is (find (is_named rule.proxy) proxies) refl
