-- The rule's scope, and the place of its proxy.
use Rattle.std.proofs.Common.{◌≡◌, ◌^◌, ◌<◌, [], ◌∷◌, Some, ap, arith, get_or, length, map, subst, sym, ◌∙◌}
use Rattle.std.specs.Prelude.{IfOk, option_map}
use Rattle.std.specs.List.{position}
use Rattle.tox_config.specs.Populate.{is_named}
use Rattle.tox_script.specs.Scopes.{scope_of, scope_view}
use Rattle.tox_text.specs.Nearest.{nearest}
use Rattle.tox_check.specs.Lines.{proxy_names}
use Rattle.tox_check.specs.Sentences.{warning_text, unknown_text}
use Rattle.tox_check.specs.RuleWarnings.{IsTreeOf, runs_by}
use Rattle.tox_check.proofs.NamedTrees.{AreTrees-length, StandsAt-position, position-some}
use Rattle.tox_check.proofs.ProxyRuns.{HoldsRuns-few}
use Rattle.tox_check.proofs.RuleWarned.{known_lines, rule_warnings-known, rule_warnings-unknown}
use Rattle.tox_check.proofs.rule_warnings.warnings_of.Goals as goal

pub bounds-trees-place : goal.bounds-trees-place
bounds-trees-place c =
    let setup = c.args.setup.now in
    let at = position-some (is_named c.in-Some.scope.proxy.now) c.deref.result.now c.in-Some-place_of.place (sym c.in-Some-place_of.ensures) in
    let within = at.1 in
    let proxies = ap length c.deref.ensures.value in
    let trees = AreTrees-length setup.script setup.proxies.items c.args.trees.now c.requires.trees in
    omega arith

pub known-requires-clause-tree : goal.known-requires-clause-tree
known-requires-clause-tree c =
    let setup = c.args.setup.now in
    let tree = c.index-trees-place.result in
    let found = ap (λ ps. position (is_named c.in-Some.scope.proxy.now) ps) (sym c.deref.ensures.value) ∙ sym c.in-Some-place_of.ensures in
    let stands = StandsAt-position setup.script c.in-Some.scope.proxy.now setup.proxies.items c.args.trees.now c.index.result.now tree c.in-Some-place_of.place
    c.requires.trees found in
    subst IsTreeOf (sym c.index-trees-place.is) stands.holds.whole

pub known-requires-clause-few : goal.known-requires-clause-few
known-requires-clause-few c =
    let setup = c.args.setup.now in
    let tree = c.index-trees-place.result in
    let found = ap (λ ps. position (is_named c.in-Some.scope.proxy.now) ps) (sym c.deref.ensures.value) ∙ sym c.in-Some-place_of.ensures in
    let stands = StandsAt-position setup.script c.in-Some.scope.proxy.now setup.proxies.items c.args.trees.now c.index.result.now tree c.in-Some-place_of.place
    c.requires.trees found in
    subst (λ t. length (runs_by t) < 2 ^ 64) (sym c.index-trees-place.is) (HoldsRuns-few _ _ _ stands.holds)

pub returns-in-None : goal.returns-in-None
returns-in-None c = λ found is.
    let setup = c.args.setup.now in
    let scope = scope_view c.in-Some.scope in
    let read : Some scope ≡ Some (scope_of found) = c.in-Some.ensures ∙ ap (option_map scope_of) is in
    let same : scope ≡ scope_of found = cc in
    let none = ap (λ ps. position (is_named scope.proxy) ps) (sym c.deref.ensures.value) ∙ sym c.in-None.ensures in
    let same_so = ap (λ ps. unknown_text scope.proxy (nearest scope.proxy (proxy_names ps)) ∷ []) c.deref-in-None.ensures.value
    ∙ rule_warnings-unknown setup.script setup.proxies.items c.args.trees.now c.args.rule found is scope same none in
    subst (λ lines. IfOk c.unknown.result (λ warnings. map warning_text warnings.items ≡ lines)) same_so c.unknown.ensures

pub returns-in-Some-place_of : goal.returns-in-Some-place_of
returns-in-Some-place_of c = λ found is.
    let setup = c.args.setup.now in
    let scope = scope_view c.in-Some.scope in
    let read : Some scope ≡ Some (scope_of found) = c.in-Some.ensures ∙ ap (option_map scope_of) is in
    let same : scope ≡ scope_of found = cc in
    let place = c.in-Some-place_of.place in
    let tree = c.index-trees-place.result in
    let proxy = c.index.result.now in
    let somewhere = ap (λ ps. position (is_named scope.proxy) ps) (sym c.deref.ensures.value) ∙ sym c.in-Some-place_of.ensures in
    let same_so = ap (λ t. known_lines setup.script c.args.rule scope t proxy) c.index-trees-place.is
    ∙ ap (known_lines setup.script c.args.rule scope (get_or c.args.trees.now place tree)) c.index.ensures
    ∙ rule_warnings-known setup.script setup.proxies.items c.args.trees.now c.args.rule found is scope same c.requires.trees proxy tree place somewhere in
    subst (λ lines. IfOk c.known.result (λ warnings. map warning_text warnings.items ≡ lines)) same_so c.known.ensures
