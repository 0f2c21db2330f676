-- A direction that goes on was driven.
use Rattle.std.proofs.Common.{refl, rules}
use Rattle.tox_serve.proofs.workers.DirectionLemmas.{runs_going}
use Rattle.tox_serve.proofs.workers.open_direction.OpenDirection.run.Goals as goal

pub returns-clause-runs : goal.returns-clause-runs
returns-clause-runs g c = record { run = runs_going _ c.in-Going.flow _ _ (search rules) c.advance-state.ensures.advanced; armed = refl; turn = refl }
