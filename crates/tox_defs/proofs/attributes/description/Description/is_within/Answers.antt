-- The ranges are those of the attributes.
use Rattle.std.proofs.Common.{ℕ, ap, map, sym, ◌∙◌}
use Rattle.tox_defs.specs.declared.attributes.attribute.Attribute.{Attribute}
use Rattle.tox_defs.specs.declared.attributes.limits.Limits.{Limits}
use Rattle.tox_defs.specs.toxics.Ranges.{are_in, is_in}
use Rattle.tox_defs.proofs.Mapped.{list_all_zip_map}
use Rattle.tox_defs.proofs.attributes.description.Description.is_within.Goals as goal

pub returns : goal.returns
returns c =
    let test = λ (pair : Limits × ℕ). is_in pair.0 pair.1 in
    let limits = λ (attribute : Attribute). attribute.limits in
    let attributes = c.args.self.now.attributes.now in
    c.are_in.ensures
    ∙ sym (list_all_zip_map test limits attributes c.deref.result.now)
    ∙ ap (are_in (map limits attributes)) c.deref.ensures.0
