-- Each attribute has its value, or one has none.
use Rattle.std.proofs.Common.{◌≡◌, [], None, option_map, sym, rules}
use Rattle.toml.specs.View.{view}
use Rattle.tox_defs.proofs.NoAttribute.{no_attribute}
use Rattle.tox_script.proofs.AttributeValues.{values_in-all, values_in-none}
use Rattle.tox_script.proofs.fields.attributes.values_in.Goals as goal

pub returns-in_err-value_in : goal.returns-in_err-value_in
returns-in_err-value_in c =
    let none : c.from_residual.result ≡ None = search rules in
    rw none
    (sym (values_in-none c.args.toxic.now (option_map (λ table. view table.now) c.args.attributes) c.attributes-attribute-items.result.now
    c.attributes-attribute-items.ensures.names c.loop-attribute.attribute-index no_attribute c.loop-attribute-test.true (search rules)))

pub returns : goal.returns
returns c =
    sym (values_in-all c.args.toxic.now (option_map (λ table. view table.now) c.args.attributes) c.attributes-attribute-items.result.now
    c.attributes-attribute-items.ensures.names c.loop-attribute.attribute-index c.loop-attribute.values.items c.loop-attribute-test.false c.loop-attribute.invariant)
