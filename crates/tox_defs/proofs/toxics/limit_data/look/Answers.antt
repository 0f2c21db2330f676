-- A limit finds the first bytes, and closes at the instant of the last.
use Rattle.std.proofs.Common.{refl}
use Rattle.tox_time.specs.declared.streams.ending.Ending.TheVariants.{Closed}
use Rattle.tox_defs.specs.toxics.LimitData.{limit_gives}
use Rattle.tox_defs.proofs.Uncut.{finds_all}
use Rattle.tox_defs.proofs.toxics.limit_data.look.Goals as goal

pub returns-clause-finds : goal.returns-clause-finds
returns-clause-finds c =
    λ items. finds_all (limit_gives c.args.bytes) c.args.state.now c.args.rest.now c.look.result items c.requires.running
    (c.look.ensures.finds (λ t. Closed t) refl)
