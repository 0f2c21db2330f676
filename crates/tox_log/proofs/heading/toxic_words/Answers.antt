-- Behind its first word the line is cut at its first space.
use Rattle.std.proofs.Common.{rules}
use Rattle.tox_log.proofs.HeadingLines.{words-read}
use Rattle.tox_log.proofs.heading.toxic_words.Goals as goal

pub returns : goal.returns
returns c = words-read c.cut_at.result (λ words. words.0.now) (λ words. words.1.now) c.args.line.now c.in_ok-rest.rest.now c.in_ok-rest.ensures.cases.1
    (search rules) c.cut_at.ensures.cut
