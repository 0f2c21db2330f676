-- One proxy more has its tree.
use Rattle.std.proofs.Common.{◌≡◌, ◌+◌, ◌<◌, ◌++◌, [], ◌∷◌, ap, arith, get_or, length, subst, sym, take, ◌∙◌}
use Rattle.std.proofs.lemmas.List.{take_more}
use Rattle.tox_config.specs.Proxy.{Proxy}
use Rattle.tox_check.specs.Trees.{AreTrees, HoldsRuns}
use Rattle.tox_check.proofs.NamedTrees.{AreTrees-push}
use Rattle.tox_check.proofs.trees.trees_of.Goals as goal

pub loop-proxy-preserved : goal.loop-proxy-preserved
loop-proxy-preserved c =
    let script = c.args.setup.now.script in
    let proxies = c.args.setup.now.proxies.items in
    let k = c.loop-proxy.proxy-index in
    let proxy = c.proxy-item.result in
    let tree = c.in_ok-tree.tree in
    let trees = c.loop-proxy.trees.items in
    let named : c.deref.result.now ≡ proxy.name = c.deref.ensures ∙ ap (λ (p : Proxy). p.name) c.proxy.view_is in
    let holds = subst (λ name. HoldsRuns script name tree) named c.in_ok-tree.ensures in
    let whole = AreTrees-push script (take k proxies) proxy trees tree c.loop-proxy.invariant holds in
    let below : k < length proxies = omega (arith, c.loop-proxy-test.true, ap length c.deref-proxy-items.ensures.value) in
    let is : proxy ≡ get_or proxies k proxy = c.proxy-item.is ∙ ap (λ ps. get_or ps k proxy) c.deref-proxy-items.ensures.value in
    let front : take k proxies ++ proxy ∷ [] ≡ take (k + 1) proxies = sym (take_more proxies k proxy below ∙ ap (λ p. take k proxies ++ p ∷ []) (sym is)) in
    subst (AreTrees script (take (k + 1) proxies)) (sym c.in_ok-push.ensures.items) (subst (λ ps. AreTrees script ps (trees ++ tree ∷ [])) front whole)
