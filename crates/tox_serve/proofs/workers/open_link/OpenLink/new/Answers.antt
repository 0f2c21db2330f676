-- The directions of a new link are new.
use Rattle.tox_serve.proofs.workers.DirectionLemmas.{new_direction}
use Rattle.tox_serve.proofs.workers.open_link.OpenLink.new.Goals as goal

pub returns-in-Ok-clause-up : goal.returns-in-Ok-clause-up
returns-in-Ok-clause-up g c =
    rw c.in-Ok.ensures.ok (new_direction _ _ _ _ c.new-3.ensures.state c.new-3.ensures.armed c.new-3.ensures.turn c.in_ok-up.ensures.begins)

pub returns-in-Ok-clause-down : goal.returns-in-Ok-clause-down
returns-in-Ok-clause-down g c =
    rw c.in-Ok.ensures.ok (new_direction _ _ _ _ c.new-4.ensures.state c.new-4.ensures.armed c.new-4.ensures.turn c.in_ok-down.ensures.begins)
