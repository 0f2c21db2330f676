-- The names of streams are text.
use Rattle.std.proofs.Common.{IsUtf8, sym, subst}
use Rattle.tox_log.proofs.HeadingLines.{stream-utf8}
use Rattle.tox_log.proofs.heading.stream_of.Goals as goal

pub returns-in_default : goal.returns-in_default
returns-in_default c = λ direction same. c.in_default.ensures.cases.0 (subst IsUtf8 (sym same) (stream-utf8 direction))
