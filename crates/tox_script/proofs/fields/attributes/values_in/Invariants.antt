-- Each attribute so far has its value.
use Rattle.std.proofs.Common.{◌≡◌, Some, map, option_map, take}
use Rattle.toml.specs.View.{view}
use Rattle.tox_script.proofs.AttributeValues.{value_by}
use Rattle.tox_script.proofs.fields.attributes.values_in.Given as goal

abbrev pub invariant-loop-attribute : goal.invariant-loop-attribute
invariant-loop-attribute l =
    map (value_by (option_map (λ table. view table.now) l.attributes)) (take l.attribute-index l.attribute-items) ≡ map Some l.values.items
