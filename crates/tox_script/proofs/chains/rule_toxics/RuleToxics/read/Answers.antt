-- One more toxic, and a toxic that can't stand behind the others.
use Rattle.std.proofs.lemmas.Result.{err_from_is_err_and}
use Rattle.tox_script.specs.Views.{toxic_view}
use Rattle.tox_script.proofs.ToxicTurns.{IsReached-next, read_toxics-refused}
use Rattle.tox_script.proofs.chains.rule_toxics.RuleToxics.read.Goals as goal

pub loop-index-preserved : goal.loop-index-preserved
loop-index-preserved c =
    let loop = c.loop-index in
    rw (c.in_ok-push.ensures.items, c.in_ok-push-2.ensures.items) (IsReached-next c.args.settings c.args.rule c.args.tables.now loop.index
    c.index-tables-index.result loop.chains c.put.new.self loop.order.items loop.decimals.items (toxic_view c.in_ok-toxic.toxic) loop.invariant
    (c.loop-index-test.true, c.index-tables-index.is) c.in_ok-toxic.ensures.ok c.in_ok-put.ensures.ok)

pub returns-in_err-put-clause-err : goal.returns-in_err-put-clause-err
returns-in_err-put-clause-err c =
    let loop = c.loop-index in
    let p = err_from_is_err_and c.from_residual-in_err-put.result c.from_residual-in_err-put.ensures.1 in
    rw (p.1, p.2)
    (λ other. read_toxics-refused c.args.settings c.args.rule c.args.tables.now loop.index c.index-tables-index.result loop.chains loop.order.items
    loop.decimals.items (toxic_view c.in_ok-toxic.toxic) c.in_err-put.field-0.0 loop.invariant
    (c.loop-index-test.true, c.index-tables-index.is) c.in_ok-toxic.ensures.ok (c.in_err-put.ensures.err other))
