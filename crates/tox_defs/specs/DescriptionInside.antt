-- What the code's description of a toxic stands for.
use Rattle.std.specs.Prelude.{map}
use Rattle.tox_defs.specs.Meaning.{Description}
use Rattle.tox_defs.specs.declared.attributes.description.Description.{Description as LentDescription}

abbrev pub description_view : LentDescription → Description
description_view lent = record {
  name = lent.name.now;
  attributes = map (λ attribute. attribute.name.now) lent.attributes.now;
  limits = map (λ attribute. attribute.limits) lent.attributes.now;
  values = lent.values.items;
  window = lent.window;
  effect = lent.effect;
}
