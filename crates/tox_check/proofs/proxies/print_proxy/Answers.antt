-- Where an enabled proxy listens, and then its upstream.
use Rattle.std.proofs.Common.{◌≡◌, true, ap, codes, sym, ◌∙◌}
use Rattle.tox_config.specs.Proxy.{Proxy}
use Rattle.tox_check.specs.ProxyLines.{address_lines, upstream_lines}
use Rattle.tox_check.proofs.LinesThen.{PrintsLines-front, PrintsLines-stops, PrintsLines-then}
use Rattle.tox_check.proofs.proxies.print_proxy.Goals as goal

pub returns-in_err-listen : goal.returns-in_err-listen
returns-in_err-listen g c =
    let proxy = c.args.proxy.now in
    let enabled : proxy.enabled ≡ true = sym (ap (λ (p : Proxy). p.enabled) c.proxy.view_is) ∙ c.if-not-proxy.false in
    let name = c.deref.ensures ∙ ap (λ (p : Proxy). p.name) c.proxy.view_is in
    let listen = c.deref-2.ensures ∙ ap (λ (p : Proxy). p.listen) c.proxy.view_is in
    let first = rw (name, listen) at c.in_err-listen.ensures in
    rw enabled (PrintsLines-front (address_lines proxy.name (codes " listen") proxy.listen) (upstream_lines proxy) c.from_residual.ensures.1 first)

pub returns-in_err-upstream : goal.returns-in_err-upstream
returns-in_err-upstream g c =
    let proxy = c.args.proxy.now in
    let enabled : proxy.enabled ≡ true = sym (ap (λ (p : Proxy). p.enabled) c.proxy.view_is) ∙ c.if-not-proxy.false in
    let name = c.deref.ensures ∙ ap (λ (p : Proxy). p.name) c.proxy.view_is in
    let listen = c.deref-2.ensures ∙ ap (λ (p : Proxy). p.listen) c.proxy.view_is in
    let first = rw (name, listen) at c.in_ok-listen.ensures in
    rw enabled
    (PrintsLines-stops (address_lines proxy.name (codes " listen") proxy.listen) (upstream_lines proxy) c.from_residual-in_err-upstream.ensures.1 first
    c.in_err-upstream.ensures)

pub returns : goal.returns
returns g c =
    let proxy = c.args.proxy.now in
    let enabled : proxy.enabled ≡ true = sym (ap (λ (p : Proxy). p.enabled) c.proxy.view_is) ∙ c.if-not-proxy.false in
    let name = c.deref.ensures ∙ ap (λ (p : Proxy). p.name) c.proxy.view_is in
    let listen = c.deref-2.ensures ∙ ap (λ (p : Proxy). p.listen) c.proxy.view_is in
    let first = rw (name, listen) at c.in_ok-listen.ensures in
    rw enabled
    (PrintsLines-then (address_lines proxy.name (codes " listen") proxy.listen) (upstream_lines proxy) first
    c.in_ok-upstream.ensures c.saturating_add.ensures)
