-- The closure tests each value.
use Rattle.std.proofs.Common.{rules, tests, sym, ◌∙◌}
use Rattle.std.proofs.lemmas.Iterator.{YieldsList-from_slice}
use Rattle.std.proofs.lemmas.Iterator.Search.{all_from_yields_List}
use Rattle.toml.specs.View.{view}
use Rattle.tox_script.specs.fields.Fields.{is_table}
use Rattle.tox_script.proofs.Tables.{all_tables-view}
use Rattle.tox_script.proofs.fields.all_tables.Goals as goal

pub returns : goal.returns
returns c =
    all_from_yields_List (λ value. is_table (view value)) _ _ c.all.result c.all.ensures.ran
    (YieldsList-from_slice c.args.values.now (cc)) (λ x b q k. search (rules, tests))
    ∙ sym (all_tables-view c.args.values.now)
