-- The closure tests each attribute's name.
use Rattle.std.proofs.Common.{rules, tests, sym, ap, ◌∙◌, List, ℕ}
use Rattle.std.specs.List.{list_any}
use Rattle.std.specs.Str.{bytes_eq}
use Rattle.std.proofs.lemmas.Iterator.{YieldsList-from_slice}
use Rattle.std.proofs.lemmas.Iterator.Search.{any_from_yields_List}
use Rattle.tox_defs.proofs.Mapped.{list_any-map}
use Rattle.tox_defs.proofs.toxic.Toxic.has_attribute.Goals as goal

pub returns : goal.returns
returns c =
    let test = λ (attribute : List ℕ). bytes_eq attribute c.args.name.now in
    any_from_yields_List (λ attribute. test attribute.name.now) _ _ c.any.result c.any.ensures.ran
    (YieldsList-from_slice c.attributes.result.now (cc)) (λ x b q k. search (rules, tests))
    ∙ sym (list_any-map test (λ attribute. attribute.name.now) c.attributes.result.now)
    ∙ ap (list_any test) c.attributes.ensures.names
