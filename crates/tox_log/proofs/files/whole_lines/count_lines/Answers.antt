use Rattle.std.proofs.Common.{rules}
use Rattle.memchr.proofs.lemmas.CallerLemmas.{length-places}
use Rattle.memchr.specs.Find.{is_byte}
use Rattle.tox_log.proofs.files.whole_lines.count_lines.Goals as goal

pub returns : goal.returns
returns c = rw (← length-places (is_byte 10) c.args.text.now) (search rules)
