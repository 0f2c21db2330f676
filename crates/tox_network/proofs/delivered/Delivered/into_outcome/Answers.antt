-- A list with a final has an ending.
use Rattle.tox_network.proofs.ShownItems.{some_ending}
use Rattle.tox_network.proofs.delivered.Delivered.into_outcome.Goals as goal

pub unreachable-requires : goal.unreachable-requires
unreachable-requires c = some_ending c.self.inside.slices c.self.inside.ending c.args.self c.self.view_is c.requires c.in-None.is
