-- The text with and without a colon.
use Rattle.std.proofs.Common.{sym, ◌∙◌}
use Rattle.tox_config.proofs.Ports.{ends_in_port-found, ends_in_port-none}
use Rattle.tox_config.proofs.address.ends_in_port.Goals as goal

pub returns-in-Some : goal.returns-in-Some
returns-in-Some c =
    let cut = c.in-Some.ensures.cases in
    c.is_port.ensures ∙ sym (ends_in_port-found c.args.text.now c.in-Some.port.now cut.0 cut.1 cut.2 cut.4 cut.7)

pub returns-in-None : goal.returns-in-None
returns-in-None c = sym (ends_in_port-none c.args.text.now c.in-None.ensures.cases)
