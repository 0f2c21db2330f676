-- The first proxy, and then the others.
use Rattle.std.proofs.Common.{List, ℕ, ◌++◌, ap, drop, subst, ◌∙◌}
use Rattle.std.proofs.lemmas.List.{take_rest}
use Rattle.std.specs.Prelude.{Ok}
use Rattle.tox_config.specs.Proxy.{Proxy}
use Rattle.tox_check.specs.FileLines.{shared_lines}
use Rattle.tox_check.specs.Printing.{PrintsLines}
use Rattle.tox_check.proofs.LinesShared.{first_shared, shared_lines-first}
use Rattle.tox_check.proofs.LinesThen.{PrintsLines-front, PrintsLines-stops, PrintsLines-then}
use Rattle.tox_check.proofs.file_lines.+print_shared.Goals as goal

pub returns-in_err-first : goal.returns-in_err-first
returns-in_err-first g t c =
    let proxies = c.args.proxies.now in
    let proxy = c.proxy-item.result in
    let result = c.from_residual.result in
    let whole = ap (λ (p : Proxy). first_shared p (drop 1 proxies) ++ shared_lines (drop 1 proxies)) c.proxy-item.is
    ∙ shared_lines-first proxies proxy c.in-len1-up.len_at_least in
    let P : List (List ℕ) → Type 0 = PrintsLines g.W.Sink result c.args.printer.now c.print_shared_of.new.printer in
    let there = rw take_rest at c.first_there.ensures in
    let first = rw there at c.in_err-first.ensures in
    subst P whole (PrintsLines-front (first_shared proxy (drop 1 proxies)) (shared_lines (drop 1 proxies)) c.from_residual.ensures.1 first)

pub returns-in_err-others : goal.returns-in_err-others
returns-in_err-others g t c =
    let proxies = c.args.proxies.now in
    let proxy = c.proxy-item.result in
    let result = c.from_residual-in_err-others.result in
    let whole = ap (λ (p : Proxy). first_shared p (drop 1 proxies) ++ shared_lines (drop 1 proxies)) c.proxy-item.is
    ∙ shared_lines-first proxies proxy c.in-len1-up.len_at_least in
    let P : List (List ℕ) → Type 0 = PrintsLines g.W.Sink result c.args.printer.now c.print_shared.new.printer in
    let there = rw take_rest at c.first_there.ensures in
    let first = rw there at c.in_ok-first.ensures in
    let others = rw take_rest at c.in_err-others.ensures in
    subst P whole
    (PrintsLines-stops (first_shared proxy (drop 1 proxies)) (shared_lines (drop 1 proxies)) c.from_residual-in_err-others.ensures.1 first others)

pub returns : goal.returns
returns g t c =
    let proxies = c.args.proxies.now in
    let proxy = c.proxy-item.result in
    let whole = ap (λ (p : Proxy). first_shared p (drop 1 proxies) ++ shared_lines (drop 1 proxies)) c.proxy-item.is
    ∙ shared_lines-first proxies proxy c.in-len1-up.len_at_least in
    let P : List (List ℕ) → Type 0 = PrintsLines g.W.Sink (Ok c.saturating_add.result) c.args.printer.now c.print_shared.new.printer in
    let there = rw take_rest at c.first_there.ensures in
    let first = rw there at c.in_ok-first.ensures in
    let others = rw take_rest at c.in_ok-others.ensures in
    subst P whole (PrintsLines-then (first_shared proxy (drop 1 proxies)) (shared_lines (drop 1 proxies)) first others c.saturating_add.ensures)
