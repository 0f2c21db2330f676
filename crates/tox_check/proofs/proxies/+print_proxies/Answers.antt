-- The first proxy, and then the others.
use Rattle.std.proofs.Common.{List, ℕ, ◌++◌, ap, drop, subst, ◌∙◌}
use Rattle.std.proofs.lemmas.List.{take_rest}
use Rattle.std.specs.Prelude.{Ok}
use Rattle.tox_config.specs.Proxy.{Proxy}
use Rattle.tox_check.specs.Printing.{PrintsLines}
use Rattle.tox_check.specs.ProxyLines.{proxies_lines, proxy_lines}
use Rattle.tox_check.proofs.LinesThen.{PrintsLines-front, PrintsLines-stops, PrintsLines-then, proxies_lines-first}
use Rattle.tox_check.proofs.proxies.+print_proxies.Goals as goal

pub returns-in_err-first : goal.returns-in_err-first
returns-in_err-first g t c =
    let proxies = c.args.proxies.now in
    let proxy = c.proxy-item.result in
    let result = c.from_residual.result in
    let whole = ap (λ (p : Proxy). proxy_lines p ++ proxies_lines (drop 1 proxies)) c.proxy-item.is
    ∙ proxies_lines-first proxies proxy c.in-len1-up.len_at_least in
    let P : List (List ℕ) → Type 0 =
    PrintsLines g.W.Sink result c.args.printer.now c.print_proxy.new.printer in
    subst P whole (PrintsLines-front (proxy_lines proxy) (proxies_lines (drop 1 proxies)) c.from_residual.ensures.1 c.in_err-first.ensures)

pub returns-in_err-others : goal.returns-in_err-others
returns-in_err-others g t c =
    let proxies = c.args.proxies.now in
    let proxy = c.proxy-item.result in
    let result = c.from_residual-in_err-others.result in
    let whole = ap (λ (p : Proxy). proxy_lines p ++ proxies_lines (drop 1 proxies)) c.proxy-item.is
    ∙ proxies_lines-first proxies proxy c.in-len1-up.len_at_least in
    let P : List (List ℕ) → Type 0 =
    PrintsLines g.W.Sink result c.args.printer.now c.print_proxies.new.printer in
    let others = rw take_rest at c.in_err-others.ensures in
    subst P whole (PrintsLines-stops (proxy_lines proxy) (proxies_lines (drop 1 proxies)) c.from_residual-in_err-others.ensures.1 c.in_ok-first.ensures others)

pub returns : goal.returns
returns g t c =
    let proxies = c.args.proxies.now in
    let proxy = c.proxy-item.result in
    let whole = ap (λ (p : Proxy). proxy_lines p ++ proxies_lines (drop 1 proxies)) c.proxy-item.is
    ∙ proxies_lines-first proxies proxy c.in-len1-up.len_at_least in
    let P : List (List ℕ) → Type 0 =
    PrintsLines g.W.Sink (Ok c.saturating_add.result) c.args.printer.now c.print_proxies.new.printer in
    let others = rw take_rest at c.in_ok-others.ensures in
    subst P whole
    (PrintsLines-then (proxy_lines proxy) (proxies_lines (drop 1 proxies)) c.in_ok-first.ensures others
    c.saturating_add.ensures)
