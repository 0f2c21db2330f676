-- What stands for an attribute where an index is past the end of a list.
use Rattle.std.proofs.Common.{[]}
use Rattle.tox_defs.specs.declared.attributes.attribute.Attribute.{Attribute}
use Rattle.tox_defs.specs.declared.attributes.unit.Unit.TheVariants.{Milliseconds}

abbrev pub no_attribute : Attribute
no_attribute = record {
  name = record { ref_ptr = (0, 0); now = [] };
  unit = Milliseconds;
  limits = record { least = 0; most = 0 };
  words = record { ref_ptr = (0, 0); now = [] };
}
