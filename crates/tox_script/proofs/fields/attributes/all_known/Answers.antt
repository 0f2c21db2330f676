-- The closure tests each key of the map.
use Rattle.std.proofs.Common.{rules, tests, sym, ap, ◌∙◌, string_bytes}
use Rattle.std.specs.List.{list_all}
use Rattle.std.specs.BTreeMap.{keys}
use Rattle.std.proofs.lemmas.Iterator.Consumers.{YieldsList-from_rest}
use Rattle.std.proofs.lemmas.Iterator.Search.{all_from_yields_List}
use Rattle.std.proofs.lemmas.List.Folds.{list_all-map}
use Rattle.tox_defs.specs.Toxic.{attributes_of}
use Rattle.tox_script.specs.fields.Fields.{is_among}
use Rattle.tox_script.proofs.Tables.{member_keys-view}
use Rattle.tox_script.proofs.fields.attributes.all_known.Goals as goal

pub returns : goal.returns
returns c =
    let members = c.args.members.now in
    let test = is_among (attributes_of c.args.toxic.now) in
    all_from_yields_List (λ key. test (string_bytes key)) _ _ c.all.result c.all.ensures.ran
    (YieldsList-from_rest (keys members) c.keys.ensures.rest) (λ x b q k. search (rules, tests))
    ∙ sym (list_all-map test string_bytes (keys members))
    ∙ ap (list_all test) (sym (member_keys-view members.entries))
