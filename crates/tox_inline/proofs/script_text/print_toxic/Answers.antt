-- The head of the table, and then the attributes.
use Rattle.std.proofs.Common.{◌≡◌, ℕ, List, ◌++◌, flat_map, refl, ◌∙◌}
use Rattle.std.specs.List.{zip}
use Rattle.tox_defs.specs.Toxic.{attributes_of, values_of}
use Rattle.tox_inline.specs.Texts.{attribute_line, toxic_head, toxic_text}
use Rattle.tox_inline.specs.declared.toxics.NumberedToxic.{NumberedToxic}
use Rattle.tox_text.proofs.Printings.{Prints-as, Prints-failed, Prints-then}
use Rattle.tox_inline.proofs.script_text.print_toxic.Goals as goal

toxic_text-parts : (toxic : NumberedToxic) (keys : List (List ℕ)) (values : List ℕ) → keys ≡ attributes_of toxic.entry.toxic
    → values ≡ values_of toxic.entry.toxic
    → toxic_head toxic ++ flat_map attribute_line (zip keys values) ≡ toxic_text toxic
toxic_text-parts toxic keys values are_keys are_values = rw (are_keys, are_values) refl

pub returns-in_err-print_head : goal.returns-in_err-print_head
returns-in_err-print_head g c =
    Prints-failed _ c.from_residual.ensures.1 c.in_err-print_head.ensures

pub returns : goal.returns
returns g c =
    Prints-as (toxic_text-parts c.args.toxic.now _ _ c.attributes.ensures.names (c.deref.ensures.0 ∙ c.values.ensures.values))
    (Prints-then c.in_ok-print_head.ensures c.print_attributes.ensures)
