-- What is reported of a rule, whether its proxy is there or not.
use Rattle.std.proofs.Common.{◌≡◌, ℕ, ◌+◌, List, [], ◌∷◌, ◌++◌, get_or, slice_get, Option, None, Some, sym, ap, ◌∙◌}
use Rattle.std.specs.List.{position}
use Rattle.std.specs.Prelude.{option_map, unwrap_or}
use Rattle.tox_config.specs.Populate.{is_named}
use Rattle.tox_config.specs.Proxy.{Proxy}
use Rattle.tox_script.specs.Covering.{chains_in}
use Rattle.tox_script.specs.Rule.{Rule, Rules}
use Rattle.tox_script.specs.Scopes.{RuleScope, scope_of}
use Rattle.tox_script.specs.index.Numbered.{chains_numbered, decimals_numbered, order_numbered}
use Rattle.tox_check.specs.Coverage.{last_of, within}
use Rattle.tox_check.specs.Lines.{known_warnings, met_warnings, proxy_names, proxy_warnings, rule_warnings, toxics_warnings}
use Rattle.tox_text.specs.Nearest.{nearest}
use Rattle.tox_check.specs.Sentences.{unknown_text}
use Rattle.tox_check.specs.RuleWarnings.{runs_by}
use Rattle.tox_check.specs.Trees.{AreTrees, runs_named}
use Rattle.tox_check.specs.declared.run.Run.{Run}
use Rattle.tox_check.specs.declared.tree.RunTree.{RunTree}
use Rattle.tox_check.proofs.NamedTrees.{StandsAt-position, position-none}

-- what is reported of the rule of a number, by its scope, and by its proxy and the tree of this
abbrev pub known_lines : Rules → ℕ → RuleScope → Option RunTree → Proxy → List (List ℕ)
known_lines script number scope tree proxy =
    met_warnings (number + 1) (within scope.first (last_of scope.last) (runs_by tree))
    ++ (toxics_warnings (decimals_numbered number script) (chains_numbered (Some number) script) (order_numbered number script) ++ proxy_warnings proxy)

module _ (script : Rules) (proxies : List Proxy) (trees : List (Option RunTree)) (number : ℕ) (rule : Rule) (is : slice_get script.rules number ≡ Some rule)
    (scope : RuleScope) (same : scope ≡ scope_of rule) where
  pub rule_warnings-unknown : position (is_named scope.proxy) proxies ≡ None
      → unknown_text scope.proxy (nearest scope.proxy (proxy_names proxies)) ∷ [] ≡ rule_warnings proxies (runs_named proxies trees) (number + 1) rule
  rule_warnings-unknown none =
      let nowhere = ap (λ (s : RuleScope). position (is_named s.proxy) proxies) (sym same) ∙ none in
      ap (λ (s : RuleScope). unknown_text s.proxy (nearest s.proxy (proxy_names proxies)) ∷ []) same
      ∙ ap (known_warnings proxies (number + 1) rule (runs_named proxies trees rule.proxy)) (sym (position-none (is_named rule.proxy) proxies nowhere))

  pub rule_warnings-known : AreTrees script proxies trees → (d : Proxy) (e : Option RunTree) (place : ℕ) → position (is_named scope.proxy) proxies ≡ Some place
      → known_lines script number scope (get_or trees place e) (get_or proxies place d) ≡ rule_warnings proxies (runs_named proxies trees) (number + 1) rule
  rule_warnings-known are d e place found =
      let somewhere = ap (λ (s : RuleScope). position (is_named s.proxy) proxies) (sym same) ∙ found in
      let stands = StandsAt-position script rule.proxy proxies trees d e place are somewhere in
      let others = toxics_warnings (decimals_numbered number script) (chains_numbered (Some number) script) (order_numbered number script)
      ++ proxy_warnings (get_or proxies place d) in
      ap (λ (s : RuleScope). met_warnings (number + 1) (within s.first (last_of s.last) (runs_by (get_or trees place e))) ++ others) same
      ∙ ap (λ (runs : List Run). met_warnings (number + 1) (within rule.first (last_of rule.last) runs) ++ others) (sym stands.runs)
      ∙ ap (λ (r : Option Rule). met_warnings (number + 1) (within rule.first (last_of rule.last) (runs_named proxies trees rule.proxy))
      ++ (toxics_warnings (unwrap_or (option_map (λ (x : Rule). x.decimals) r) []) (chains_in script.settings.lanes r)
      (unwrap_or (option_map (λ (x : Rule). x.order) r) []) ++ proxy_warnings (get_or proxies place d))) is
      ∙ ap (known_warnings proxies (number + 1) rule (runs_named proxies trees rule.proxy)) (sym stands.found)
