-- What is known where memory was refused.
use Rattle.serde_json.specs.View.{view}
use Rattle.tox_config.proofs.Texts.{text-json_of}
use Rattle.tox_config.proofs.remarks.read_remarks.Goals as goal

pub returns-in_err-unread-clause-memory : goal.returns-in_err-unread-clause-memory
returns-in_err-unread-clause-memory c = λ _. text-json_of c.args.bytes.now (view c.in_ok-value.value) c.in_ok-value.ensures.ok

pub returns-in_err-repeated-clause-memory : goal.returns-in_err-repeated-clause-memory
returns-in_err-repeated-clause-memory c = λ _. text-json_of c.args.bytes.now (view c.in_ok-value.value) c.in_ok-value.ensures.ok
