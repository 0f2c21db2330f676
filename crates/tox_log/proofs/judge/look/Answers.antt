-- The clock goes on, and the core is asked where nothing is left.
use Rattle.std.proofs.Common.{◌≡◌, ◌++◌, None, rules}
use Rattle.tox_link.specs.link_core.Core.{core_position}
use Rattle.tox_log.specs.Judging.{rest_table}
use Rattle.tox_log.proofs.Judging.{follows-later}
use Rattle.tox_log.proofs.RefusingEndings.{nothing-left}
use Rattle.tox_log.proofs.judge.look.Goals as goal

pub returns-then-is_none-clause-stays : goal.returns-then-is_none-clause-stays
returns-then-is_none-clause-stays c = λ means reported front start log follows.
    let judge = c.args.judge.now in
    c.ask.ensures.stays means reported front start log
    (follows-later means reported judge.core judge.heard judge.latest judge.ended start log (front ++ rest_table judge.rest) c.args.reading.now c.requires.later
    follows)

pub returns-else-is_none-clause-stays : goal.returns-else-is_none-clause-stays
returns-else-is_none-clause-stays c = λ means reported front start log follows.
    let judge = c.args.judge.now in
    follows-later means reported judge.core judge.heard judge.latest judge.ended start log (front ++ rest_table judge.rest) c.args.reading.now c.requires.later
    follows

pub returns-else-is_none-clause-all : goal.returns-else-is_none-clause-all
returns-else-is_none-clause-all c = λ empty.
    let judge = c.args.judge.now in
    let none : judge.rest ≡ None = nothing-left judge.rest judge.said (core_position judge.core) _ c.requires.held.rest empty in
    search rules
