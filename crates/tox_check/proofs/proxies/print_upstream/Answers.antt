-- The scheme of an upstream, and then whose address it is.
use Rattle.std.proofs.Common.{ap, codes, ◌∙◌}
use Rattle.tox_config.specs.Proxy.{Proxy}
use Rattle.tox_check.specs.ProxyLines.{address_lines, is_own_address, line_if, own_address_line}
use Rattle.tox_check.proofs.LinesThen.{PrintsLines-front, PrintsLines-stops, PrintsLines-then}
use Rattle.tox_check.proofs.proxies.print_upstream.Goals as goal

pub returns-in_err-scheme : goal.returns-in_err-scheme
returns-in_err-scheme g c =
    let proxy = c.args.proxy.now in
    let name = c.deref.ensures ∙ ap (λ (p : Proxy). p.name) c.proxy.view_is in
    let upstream = c.deref-2.ensures ∙ ap (λ (p : Proxy). p.upstream) c.proxy.view_is in
    let first = rw (name, upstream) at c.in_err-scheme.ensures in
    PrintsLines-front (address_lines proxy.name (codes " upstream") proxy.upstream)
    (line_if (is_own_address proxy.listen proxy.upstream) (own_address_line proxy.name proxy.upstream)) c.from_residual.ensures.1 first

pub returns-in_err-own : goal.returns-in_err-own
returns-in_err-own g c =
    let proxy = c.args.proxy.now in
    let name = c.deref.ensures ∙ ap (λ (p : Proxy). p.name) c.proxy.view_is in
    let upstream = c.deref-2.ensures ∙ ap (λ (p : Proxy). p.upstream) c.proxy.view_is in
    let name_again = c.deref-3.ensures ∙ ap (λ (p : Proxy). p.name) c.proxy.view_is in
    let listen = c.deref-4.ensures ∙ ap (λ (p : Proxy). p.listen) c.proxy.view_is in
    let upstream_again = c.deref-5.ensures ∙ ap (λ (p : Proxy). p.upstream) c.proxy.view_is in
    let first = rw (name, upstream) at c.in_ok-scheme.ensures in
    let second = rw (name_again, listen, upstream_again) at c.in_err-own.ensures in
    PrintsLines-stops (address_lines proxy.name (codes " upstream") proxy.upstream)
    (line_if (is_own_address proxy.listen proxy.upstream) (own_address_line proxy.name proxy.upstream)) c.from_residual-in_err-own.ensures.1 first second

pub returns : goal.returns
returns g c =
    let proxy = c.args.proxy.now in
    let name = c.deref.ensures ∙ ap (λ (p : Proxy). p.name) c.proxy.view_is in
    let upstream = c.deref-2.ensures ∙ ap (λ (p : Proxy). p.upstream) c.proxy.view_is in
    let name_again = c.deref-3.ensures ∙ ap (λ (p : Proxy). p.name) c.proxy.view_is in
    let listen = c.deref-4.ensures ∙ ap (λ (p : Proxy). p.listen) c.proxy.view_is in
    let upstream_again = c.deref-5.ensures ∙ ap (λ (p : Proxy). p.upstream) c.proxy.view_is in
    let first = rw (name, upstream) at c.in_ok-scheme.ensures in
    let second = rw (name_again, listen, upstream_again) at c.in_ok-own.ensures in
    PrintsLines-then (address_lines proxy.name (codes " upstream") proxy.upstream)
    (line_if (is_own_address proxy.listen proxy.upstream) (own_address_line proxy.name proxy.upstream)) first second c.saturating_add.ensures
