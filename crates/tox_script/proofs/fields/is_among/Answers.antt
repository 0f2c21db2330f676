-- The closure compares each key.
use Rattle.std.proofs.Common.{rules, tests, sym, ◌∙◌, List, ℕ}
use Rattle.std.specs.Str.{bytes_eq}
use Rattle.std.proofs.lemmas.Iterator.{YieldsList-from_slice}
use Rattle.std.proofs.lemmas.Iterator.Search.{any_from_yields_List}
use Rattle.tox_defs.proofs.Mapped.{list_any-map}
use Rattle.tox_script.proofs.fields.is_among.Goals as goal

pub returns : goal.returns
returns c =
    let test = λ (other : List ℕ). bytes_eq other c.args.key.now in
    any_from_yields_List (λ other. test other.now) _ _ c.any.result c.any.ensures.ran
    (YieldsList-from_slice c.args.keys.now (cc)) (λ x b q k. search (rules, tests))
    ∙ sym (list_any-map test (λ key. key.now) c.args.keys.now)
