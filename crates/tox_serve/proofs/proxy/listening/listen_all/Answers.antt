-- The address that wasn't bound is that of an enabled proxy.
use Rattle.std.proofs.Common.{◌≡◌, All, List, [], ◌∷◌, ◌++◌, Some, Vec, Global, slice_get, true, ap, sym, subst, ◌∙◌, arith, rules}
use Rattle.std.proofs.lemmas.Grind.{common_steps}
use Rattle.std.proofs.lemmas.List.Elements.{All-append, All-cons, All-nil}
use Rattle.tox_serve.specs.declared.proxy.listening.Listening.{Listening}
use Rattle.std.proofs.lemmas.Option.{slice_get-get_or}
use Rattle.std.proofs.lemmas.Result.{err_from_is_err_and}
use Rattle.tox_config.specs.Proxy.{Proxy}
use Rattle.tox_serve.proofs.ServeLemmas.{cause_of}
use Rattle.tox_serve.proofs.proxy.listening.listen_all.Goals.{then-proxy+in_ok-bound+else-is_err, else-proxy}
use Rattle.tox_serve.proofs.proxy.listening.listen_all.Goals as goal

-- a listener has the place of its proxy
abbrev StandsAt : List Proxy → Listening → Type 0
StandsAt proxies bound = slice_get proxies bound.place ≡ Some bound.proxy.now

pub returns-in_err-bound-clause-fault : goal.returns-in_err-bound-clause-fault
returns-in_err-bound-clause-fault g c =
    let exit = err_from_is_err_and c.from_residual.result c.from_residual.ensures.1 in
    let enabled : c.proxy-item.result.enabled ≡ true = sym (ap (λ (p : Proxy). p.enabled) c.proxy.view_is) ∙ c.if-proxy.true in
    rw (exit.1, exit.2)
    (cause_of c.args.proxies.now c.proxy-item.result c.in_err-bound.field-0.0
    (c.loop-proxy.proxy-index, c.loop-proxy-test.true, sym c.proxy-item.is) enabled c.in_err-bound.ensures.fault)

pub loop-proxy-preserved : goal.loop-proxy-preserved
loop-proxy-preserved g c =
    let stands : slice_get c.args.proxies.now c.loop-proxy.place ≡ Some c.proxy-item.result =
    ap (slice_get c.args.proxies.now) c.loop-proxy.invariant.place ∙ slice_get-get_or c.args.proxies.now c.loop-proxy.proxy-index c.proxy-item.result
    c.loop-proxy-test.true ∙ ap Some (sym c.proxy-item.is) in
    record {
      bound = grind (arith, common_steps);
      place = omega (arith, c.loop-proxy.invariant.place);
      places = elim c.if-proxy.branch [
        | then-proxy+in_ok-bound+else-is_err w ↦
            let pushed : w.push.new.self.items ≡ c.loop-proxy.listening.items ++ w.in_ok-bound.bound ∷ [] = search rules in
            let here : slice_get c.args.proxies.now w.in_ok-bound.bound.place ≡ Some c.proxy-item.result =
            ap (slice_get c.args.proxies.now) w.in_ok-bound.ensures.proxy.1 ∙ stands in
            subst (All (StandsAt c.args.proxies.now)) (sym (ap (λ (listening : Vec Listening Global). listening.items) w.listening-is ∙ pushed))
            (All-append (StandsAt c.args.proxies.now) c.loop-proxy.listening.items (w.in_ok-bound.bound ∷ []) c.loop-proxy.invariant.places
            (All-cons (StandsAt c.args.proxies.now) w.in_ok-bound.bound [] (here ∙ ap Some (sym w.in_ok-bound.ensures.proxy.0))
            (All-nil (StandsAt c.args.proxies.now))))
        | else-proxy w ↦ subst (λ (listening : Vec Listening Global). All (StandsAt c.args.proxies.now) listening.items) (sym w.listening-is)
            c.loop-proxy.invariant.places
      ];
    }
