-- The parts of the line.
use Rattle.tox_log.proofs.JudgedLineParts.{stream_text-parts}
use Rattle.tox_text.proofs.Printings.{Prints-as}
use Rattle.tox_log.proofs.judged_text.print_stream.Goals as goal

pub returns : goal.returns
returns g c =
    Prints-as (stream_text-parts c.args.log.now _ _ _ c.verdict_word.ensures c.deref.ensures c.name.ensures) c.print.ensures
