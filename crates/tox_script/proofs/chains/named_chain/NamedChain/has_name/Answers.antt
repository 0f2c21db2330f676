-- The closure compares each name.
use Rattle.std.proofs.Common.{rules, tests, sym, ap, ◌∙◌, List, ℕ, string_bytes}
use Rattle.std.specs.List.{list_any}
use Rattle.std.specs.Str.{bytes_eq}
use Rattle.std.proofs.lemmas.Iterator.{YieldsList-from_slice}
use Rattle.std.proofs.lemmas.Iterator.Search.{any_from_yields_List}
use Rattle.tox_defs.proofs.Mapped.{list_any-map}
use Rattle.tox_script.proofs.chains.named_chain.NamedChain.has_name.Goals as goal

pub returns : goal.returns
returns c =
    let test = λ (other : List ℕ). bytes_eq other c.args.name.now in
    any_from_yields_List (λ other. test (string_bytes other)) _ _ c.any.result c.any.ensures.ran
    (YieldsList-from_slice c.self.inside.names.items (cc)) (λ x b q k. search (rules, tests))
    ∙ sym (list_any-map test string_bytes c.self.inside.names.items)
    ∙ ap (λ toxics. list_any test toxics.names) c.self.view_is
