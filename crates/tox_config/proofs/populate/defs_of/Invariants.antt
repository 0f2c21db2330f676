-- Each entry so far has its definition.
use Rattle.std.proofs.Common.{◌≡◌, map, take}
use Rattle.tox_config.specs.LentProxy.{lent_view}
use Rattle.tox_config.proofs.populate.defs_of.Given as goal

abbrev pub invariant-loop-entry : goal.invariant-loop-entry
invariant-loop-entry l = l.defs.items ≡ map lent_view (take l.entry-index l.entries)
