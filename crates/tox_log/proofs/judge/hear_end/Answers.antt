-- The core has taken the end.
use Rattle.tox_log.specs.Judging.{rest_table}
use Rattle.tox_log.proofs.Judging.{end-follows}
use Rattle.tox_log.proofs.judge.hear_end.Goals as goal

pub returns-clause-hears : goal.returns-clause-hears
returns-clause-hears c = λ means reported log says follows.
    let judge = c.args.judge.now in
    end-follows means reported judge.core judge.heard judge.latest judge.ended judge.said log c.on_end.new.self (rest_table judge.rest) c.args.instant.now
    c.requires.later c.requires.fits says c.requires.going c.on_end.ensures.output follows
