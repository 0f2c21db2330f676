-- The lines of the file, and then those of the rules.
use Rattle.tox_check.specs.Lines.{rules_lines}
use Rattle.tox_check.specs.FileLines.{file_lines}
use Rattle.tox_check.specs.Trees.{runs_named}
use Rattle.tox_check.proofs.LinesThen.{PrintsLines-front, PrintsLines-stops, PrintsLines-then}
use Rattle.tox_check.proofs.check.print_lines.Goals as goal

pub returns-in_err-first : goal.returns-in_err-first
returns-in_err-first g c =
    let setup = c.args.setup.now in
    let proxies = setup.proxies.items in
    let first = rw c.deref.ensures.value at c.in_err-first.ensures in
    PrintsLines-front (file_lines setup.remarks proxies) (rules_lines proxies setup.script (runs_named proxies c.args.trees.now)) c.from_residual.ensures.1 first

pub returns-in_err-others : goal.returns-in_err-others
returns-in_err-others g c =
    let setup = c.args.setup.now in
    let proxies = setup.proxies.items in
    let first = rw c.deref.ensures.value at c.in_ok-first.ensures in
    PrintsLines-stops (file_lines setup.remarks proxies) (rules_lines proxies setup.script (runs_named proxies c.args.trees.now)) c.from_residual-in_err-others.ensures.1
    first c.in_err-others.ensures

pub returns : goal.returns
returns g c =
    let setup = c.args.setup.now in
    let proxies = setup.proxies.items in
    let first = rw c.deref.ensures.value at c.in_ok-first.ensures in
    PrintsLines-then (file_lines setup.remarks proxies) (rules_lines proxies setup.script (runs_named proxies c.args.trees.now)) first
    c.in_ok-others.ensures c.saturating_add.ensures
