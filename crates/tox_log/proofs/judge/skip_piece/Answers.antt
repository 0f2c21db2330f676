-- Only an ending is left to say.
use Rattle.std.proofs.Common.{IsSome, subst}
use Rattle.tox_log.specs.Judging.{rest_table}
use Rattle.tox_log.proofs.Judging.{piece-follows, only-table, only-ending}
use Rattle.tox_log.proofs.judge.skip_piece.Goals as goal

pub returns-clause-hears : goal.returns-clause-hears
returns-clause-hears c = λ means reported log says follows.
    let judge = c.args.judge.now in
    piece-follows means reported judge.core judge.heard judge.latest judge.ended judge.said log judge.core (rest_table judge.rest) c.args.len c.args.instant.now
    c.requires.later c.requires.fits.0 says c.requires.fits.1 c.requires.going
    (λ _ _ unknown. absurd (let known = subst IsSome unknown c.requires.over in cc))
    (λ items. only-table judge.core c.requires.only.0 c.requires.only.1 _ _) (λ items. only-ending judge.core c.requires.only.0 c.requires.only.1 _ _) follows
