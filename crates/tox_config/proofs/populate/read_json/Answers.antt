-- Bytes that are no text, a text that is read, and one for which memory was refused.
use Rattle.std.proofs.Common.{◌<◌, length, refl, ◌∙◌}
use Rattle.std.proofs.lemmas.Str.{is_utf8-from_IsUtf8}
use Rattle.tox_config.proofs.Texts.{json_of-text, json_of-other}
use Rattle.tox_config.proofs.populate.read_json.Goals as goal

pub returns-in_default-clause-err : goal.returns-in_default-clause-err
returns-in_default-clause-err c = λ _. (refl, json_of-other c.args.bytes.now c.in_default.ensures.cases.0)

pub returns-in-Ok-from_str-clause-ok : goal.returns-in-Ok-from_str-clause-ok
returns-in-Ok-from_str-clause-ok c =
    let text = c.in-Ok.ensures.cases in
    json_of-text c.args.bytes.now text.1 ∙ (rw text.0 at c.in-Ok-from_str.ensures.ok)

pub returns-in-Err-clause-memory : goal.returns-in-Err-clause-memory
returns-in-Err-clause-memory c = λ _.
    let text = c.in-Ok.ensures.cases in
    let long : 0 < length c.in-Ok.text.now = c.in-Err.ensures.memory (c.is_memory.ensures.0 c.if-is_memory.true) in
    (is_utf8-from_IsUtf8 c.args.bytes.now text.1, rw text.0 at long)
