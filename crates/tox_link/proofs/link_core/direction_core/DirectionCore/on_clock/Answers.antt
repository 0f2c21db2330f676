-- Either core answers.
use Rattle.std.proofs.Common.{rules}
use Rattle.tox_link.proofs.Looks.{answered-anyhow}
use Rattle.tox_link.proofs.link_core.direction_core.DirectionCore.on_clock.Goals as goal
use Rattle.tox_link.proofs.link_core.direction_core.DirectionCore.on_clock.Goals.{in-Plain, in-Planned}

pub returns : goal.returns
returns c = elim c.match-self.branch [
  | in-Plain w ↦ search rules
  | in-Planned w ↦ let answered = answered-anyhow _ _ 1024 1024 _ _ w.on_clock-in-Planned.ensures.answered in search rules
]
