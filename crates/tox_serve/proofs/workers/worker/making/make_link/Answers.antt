-- A link's directions have the courses of its number, in logs too.
use Rattle.tox_serve.proofs.workers.MakingLemmas.{has_course}
use Rattle.tox_serve.proofs.workers.worker.making.make_link.Goals as goal

pub returns-clause-up : goal.returns-clause-up
returns-clause-up g c =
    has_course _ _ _ _ c.in_ok-opened.opened.courses.up _ c.deref_mut.result.now.up _ _
    c.in_ok-opened.ensures.up (rw (← c.deref_mut.ensures.value) at c.in_ok-link.ensures.up) c.log.ensures.up c.log.ensures.armed.0 c.log.ensures.turns.0

pub returns-clause-down : goal.returns-clause-down
returns-clause-down g c =
    has_course _ _ _ _ c.in_ok-opened.opened.courses.down _ c.deref_mut.result.now.down _ _
    c.in_ok-opened.ensures.down (rw (← c.deref_mut.ensures.value) at c.in_ok-link.ensures.down) c.log.ensures.down c.log.ensures.armed.1 c.log.ensures.turns.1
