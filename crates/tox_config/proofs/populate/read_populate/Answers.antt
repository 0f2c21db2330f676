-- What is known where memory was refused, and of the definitions that are given.
use Rattle.std.proofs.Common.{map, length, ap, ◌∙◌, arith}
use Rattle.serde_json.specs.View.{items_view, view}
use Rattle.tox_config.specs.LentProxy.{lent_view}
use Rattle.tox_config.specs.Populate.{front_of}
use Rattle.tox_config.proofs.Distinct.{distinct-defs, few-defs}
use Rattle.tox_config.proofs.Texts.{text-json_of}
use Rattle.tox_config.proofs.populate.read_populate.Goals as goal

pub returns-in_err-entries-clause-memory : goal.returns-in_err-entries-clause-memory
returns-in_err-entries-clause-memory c = λ _. text-json_of c.args.bytes.now (view c.in_ok-value.value) c.in_ok-value.ensures.ok

pub returns-in_err-defs_of-clause-memory : goal.returns-in_err-defs_of-clause-memory
returns-in_err-defs_of-clause-memory c = λ _. text-json_of c.args.bytes.now (view c.in_ok-value.value) c.in_ok-value.ensures.ok

pub returns-clause-distinct : goal.returns-clause-distinct
returns-clause-distinct c =
    rw (c.in_ok-defs_of.ensures ∙ ap (map lent_view) c.deref-2.ensures.value)
    (distinct-defs (front_of 0 (items_view c.deref.result.now)) (map lent_view c.in_ok-entries.entries.items) c.in_ok-entries.ensures.ok)

pub returns-clause-few : goal.returns-clause-few
returns-clause-few c =
    omega (
      arith,
      few-defs (front_of 0 (items_view c.deref.result.now)) (map lent_view c.in_ok-entries.entries.items) c.in_ok-entries.ensures.ok,
      ap length (c.in_ok-defs_of.ensures ∙ ap (map lent_view) c.deref-2.ensures.value),
    )
