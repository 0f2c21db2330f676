-- The fields, and the toxic that they stand for.
use Rattle.std.proofs.Common.{◌≡◌, Ok, Err, rules}
use Rattle.std.proofs.lemmas.Result.{IfOk-at_ok, IfErr-at_err, err_from_is_err_and}
use Rattle.toml.specs.View.{view}
use Rattle.tox_script.specs.chains.Toxic.{named_toxic}
use Rattle.tox_script.specs.fields.ToxicFields.{toxic_fields}
use Rattle.tox_script.specs.Views.{fields_view, toxic_view}
use Rattle.tox_script.specs.declared.fault.ScriptFault.TheVariants.{Toxic}
use Rattle.tox_script.proofs.Renamed.{ok_before, err_before}
use Rattle.tox_script.proofs.chains.rule_toxics.read_toxic.Goals as goal

pub returns-in_err-toxic-clause-err : goal.returns-in_err-toxic-clause-err
returns-in_err-toxic-clause-err c =
    let was_read = ok_before c.read.result c.map_err.result _ c.in_ok-fields.fields c.map_err.ensures.cases c.in_ok-fields.was in
    let was_toxic = err_before c.of.result c.map_err-2.result _ c.in_err-toxic.field-0.0 c.map_err-2.ensures.cases c.in_err-toxic.was in
    let read : toxic_fields (view c.args.table.now) ≡ Ok (fields_view c.in_ok-fields.fields) =
    IfOk-at_ok (λ fields. toxic_fields (view c.args.table.now) ≡ Ok (fields_view fields)) was_read c.read.ensures.ok in
    let named : named_toxic c.args.version (fields_view c.in_ok-fields.fields) ≡ Err was_toxic.0 =
    IfErr-at_err (λ fault. named_toxic c.args.version (fields_view c.in_ok-fields.fields) ≡ Err fault) was_toxic.1 c.of.ensures.err in
    let reported : c.in_err-toxic.field-0.0 ≡ Toxic c.args.at was_toxic.0 = search (rules, was_toxic.2) in
    let p = err_from_is_err_and c.from_residual-in_err-toxic.result c.from_residual-in_err-toxic.ensures.1 in
    rw (p.1, p.2, reported, read, named)

pub returns-clause-ok : goal.returns-clause-ok
returns-clause-ok c =
    let was_read = ok_before c.read.result c.map_err.result _ c.in_ok-fields.fields c.map_err.ensures.cases c.in_ok-fields.was in
    let was_toxic = ok_before c.of.result c.map_err-2.result _ c.in_ok-toxic.toxic c.map_err-2.ensures.cases c.in_ok-toxic.was in
    let read : toxic_fields (view c.args.table.now) ≡ Ok (fields_view c.in_ok-fields.fields) =
    IfOk-at_ok (λ fields. toxic_fields (view c.args.table.now) ≡ Ok (fields_view fields)) was_read c.read.ensures.ok in
    let named : named_toxic c.args.version (fields_view c.in_ok-fields.fields) ≡ Ok (toxic_view c.in_ok-toxic.toxic) =
    IfOk-at_ok (λ toxic. named_toxic c.args.version (fields_view c.in_ok-fields.fields) ≡ Ok (toxic_view toxic)) was_toxic c.of.ensures.ok in
    rw (read, named)
