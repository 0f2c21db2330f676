-- The clock's readings are instants.
use Rattle.tox_log.proofs.NotedLines.{noted-broken, noted-ended, noted-front}
use Rattle.tox_log.proofs.noted_lines.noted_lines_are_a_log.Goals as goal

pub returns-clause-ended : goal.returns-clause-ended
returns-clause-ended g c = λ means events taken written reading ending source report of_heard.
    noted-ended (g.C.Clock.reported c.args._clock.now) (g.met.C.Clock.instants c.args._clock.now) means events taken written reading ending source report
    of_heard

pub returns-clause-broken : goal.returns-clause-broken
returns-clause-broken g c = λ means events written cause cut.
    noted-broken (g.C.Clock.reported c.args._clock.now) (g.met.C.Clock.instants c.args._clock.now) means events written cause cut

pub returns-clause-front : goal.returns-clause-front
returns-clause-front g c = λ means front back noted. noted-front means front back noted
