-- Bytes that are no text, a text that is read, and one for which memory was refused.
use Rattle.std.proofs.Common.{Some, ap, option_map, refl, sym, ◌∙◌}
use Rattle.std.proofs.lemmas.Str.{is_utf8-from_IsUtf8}
use Rattle.toml.proofs.Views.{view-Table}
use Rattle.toml.specs.Data.{table}
use Rattle.tox_script.proofs.Texts.{toml_of-text, toml_of-other}
use Rattle.tox_script.proofs.script.read_toml.Goals as goal

pub returns-in_default-clause-err : goal.returns-in_default-clause-err
returns-in_default-clause-err c = λ _. (refl, toml_of-other c.args.bytes.now c.in_default.ensures.cases.0)

pub returns-in-Ok-table_from_str-clause-ok : goal.returns-in-Ok-table_from_str-clause-ok
returns-in-Ok-table_from_str-clause-ok c =
    let text = c.in-Ok.ensures.cases in
    toml_of-text c.args.bytes.now text.1 ∙ ap (option_map table) (rw text.0 at c.in-Ok-table_from_str.ensures.ok)
    ∙ ap Some (sym (view-Table c.in-Ok-table_from_str.document))

pub returns-in-Err-clause-memory : goal.returns-in-Err-clause-memory
returns-in-Err-clause-memory c = λ _. is_utf8-from_IsUtf8 c.args.bytes.now c.in-Ok.ensures.cases.1
