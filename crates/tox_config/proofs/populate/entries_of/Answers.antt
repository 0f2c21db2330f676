-- The loop's invariant, and its exits.
use Rattle.std.proofs.Common.{◌+◌, ◌≤◌, drop, length, map, sym, ap, ◌∙◌, arith}
use Rattle.std.proofs.lemmas.List.{length-map}
use Rattle.std.proofs.lemmas.Result.{err_from_is_err_and}
use Rattle.serde_json.specs.View.{items_view}
use Rattle.tox_config.specs.LentProxy.{lent_view, put}
use Rattle.tox_config.specs.Populate.{most_names}
use Rattle.tox_config.proofs.Turns.{entries_from, entries_from-start, turn-ok, turn-err}
use Rattle.tox_config.proofs.populate.entries_of.Goals as goal

pub loop-place-init : goal.loop-place-init
loop-place-init c =
    let values = items_view c.args.values.now in
    ap (λ entries. entries_from 0 values (map lent_view entries)) c.new-entries.ensures.items ∙ entries_from-start values

pub loop-place-preserved : goal.loop-place-preserved
loop-place-preserved c =
    let loop = c.loop-place in
    let left = items_view (drop (loop.place + 1) c.args.values.now) in
    let few : length (put (lent_view c.in_ok-read.field-0) (map lent_view loop.entries.items)) ≤ most_names =
    omega (arith, ap length c.in_ok-put.ensures, length-map c.put.new.entries.items lent_view, c.if-len-gt-MAX_PROXIES.false, c.len.ensures) in
    ap (entries_from (loop.place + 1) left) c.in_ok-put.ensures
    ∙ sym (turn-ok c.args.values.now c.index-values-place.result loop.place (map lent_view loop.entries.items) (lent_view c.in_ok-read.field-0)
    (c.loop-place-test.true, c.index-values-place.is) c.in_ok-read.ensures.ok few)
    ∙ loop.invariant

pub returns-in_err-read-clause-err : goal.returns-in_err-read-clause-err
returns-in_err-read-clause-err c =
    let loop = c.loop-place in
    let p = err_from_is_err_and c.from_residual.result c.from_residual.ensures.1 in
    rw (p.1, p.2) (λ _. sym loop.invariant ∙ turn-err c.args.values.now c.index-values-place.result loop.place (map lent_view loop.entries.items)
    c.in_err-read.field-0.0 (c.loop-place-test.true, c.index-values-place.is) c.in_err-read.ensures.err)
