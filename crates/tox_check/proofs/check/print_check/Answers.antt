-- The lines by the trees, and the last line.
use Rattle.std.proofs.Common.{◌∙◌, rules, subst, sym}
use Rattle.std.proofs.lemmas.Result.{err_from_is_err_and}
use Rattle.tox_check.specs.Trees.{AreTrees, runs_named}
use Rattle.tox_check.proofs.Checked.{PrintsCheck-end, StopsCheck-end, StopsCheck-last, StopsCheck-lines, StopsCheck-none}
use Rattle.tox_check.proofs.NamedTrees.{AreRuns-trees}
use Rattle.tox_check.proofs.check.print_check.Goals as goal

pub returns-in_default-clause-left : goal.returns-in_default-clause-left
returns-in_default-clause-left g c = StopsCheck-none c.args.setup.now.remarks c.args.setup.now.proxies.items c.args.setup.now.script c.args.verbose _ _ c.requires

pub returns-in_err-warned-clause-left : goal.returns-in_err-warned-clause-left
returns-in_err-warned-clause-left g c =
    let script = c.args.setup.now.script in
    let proxies = c.args.setup.now.proxies.items in
    let are = AreRuns-trees script proxies c.deref.result.now (subst (AreTrees script proxies) (sym c.deref.ensures.value) c.in-Ok.ensures) in
    let exit = err_from_is_err_and c.from_residual.result c.from_residual.ensures.1 in
    let stops = rw c.new-printer.ensures.writer at (StopsCheck-lines c.args.setup.now.remarks proxies script c.args.verbose (runs_named proxies c.deref.result.now) are
    c.new-printer.ensures.empty c.in_err-warned.ensures.0) in
    rw (exit.1, exit.2) (search (rules, stops))

pub returns-then-is_err-clause-left : goal.returns-then-is_err-clause-left
returns-then-is_err-clause-left g c =
    let script = c.args.setup.now.script in
    let proxies = c.args.setup.now.proxies.items in
    let are = AreRuns-trees script proxies c.deref.result.now (subst (AreTrees script proxies) (sym c.deref.ensures.value) c.in-Ok.ensures) in
    let stops = rw c.new-printer.ensures.writer at (StopsCheck-last c.args.setup.now.remarks proxies script c.args.verbose (runs_named proxies c.deref.result.now) are
    c.print_last.result (sym c.is_err.ensures.value ∙ c.if-is_err.true) c.new-printer.ensures.empty c.in_ok-warned.ensures.0 c.print_last.ensures) in
    search (rules, stops)

pub returns-in-Ok-finish-clause-ok : goal.returns-in-Ok-finish-clause-ok
returns-in-Ok-finish-clause-ok g c =
    let script = c.args.setup.now.script in
    let proxies = c.args.setup.now.proxies.items in
    let are = AreRuns-trees script proxies c.deref.result.now (subst (AreTrees script proxies) (sym c.deref.ensures.value) c.in-Ok.ensures) in
    let printed = c.in_ok-warned.ensures in
    let prints = rw c.new-printer.ensures.writer at (PrintsCheck-end c.args.setup.now.remarks proxies script c.args.verbose (runs_named proxies c.deref.result.now) are
    c.print_last.result _ (sym c.is_err.ensures.value ∙ c.if-is_err.false) c.new-printer.ensures.empty printed.1 printed.0 c.print_last.ensures
    c.in-Ok-finish.ensures) in
    search (rules, prints)

pub returns-clause-left : goal.returns-clause-left
returns-clause-left g c =
    let script = c.args.setup.now.script in
    let proxies = c.args.setup.now.proxies.items in
    let are = AreRuns-trees script proxies c.deref.result.now (subst (AreTrees script proxies) (sym c.deref.ensures.value) c.in-Ok.ensures) in
    let stops = rw c.new-printer.ensures.writer at (StopsCheck-end c.args.setup.now.remarks proxies script c.args.verbose (runs_named proxies c.deref.result.now) are c.print_last.result
    c.in-Err.field-0 _ (sym c.is_err.ensures.value ∙ c.if-is_err.false) c.new-printer.ensures.empty c.in_ok-warned.ensures.0 c.print_last.ensures
    c.in-Err.ensures) in
    search (rules, stops)
