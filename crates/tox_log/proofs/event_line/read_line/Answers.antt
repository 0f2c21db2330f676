-- What is read is the line that prints so.
use Rattle.tox_log.proofs.ReadsBack.{only-line}
use Rattle.tox_log.proofs.event_line.read_line.Goals as goal

pub returns-clause-back : goal.returns-clause-back
returns-clause-back c = only-line c.line_of.result c.args.text.now c.line_of.ensures
