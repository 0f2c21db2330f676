-- What a contract sees of a `DirectionCore`: its core, of whichever kind.
use Rattle.tox_link.specs.declared.link_core.direction_core.CoreKind.{CoreKind}
use Rattle.tox_link.specs.declared.link_core.direction_core.CoreKind.TheVariants.{Plain, Planned}
use Rattle.tox_link.specs.declared.link_core.direction_core.DirectionCore.TheInside.{Inside}
use Rattle.tox_link.specs.link_core.Core.{CoreView}

-- the core of a plan with operations has room for 1,024 pieces
abbrev pub core_in : CoreKind → CoreView
core_in (Plain core) = core
core_in (Planned core) = record core.value { room = 1024 }

abbrev pub direction_view : Inside → CoreView
direction_view inside = core_in inside.kind
