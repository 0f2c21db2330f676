-- What the answer tells.
use Rattle.std.proofs.Common.{◌≡◌, Some, arith}
use Rattle.std.proofs.lemmas.Grind.{common_steps}
use Rattle.tox_network.specs.declared.moves.Move.TheVariants.{Deliver}
use Rattle.tox_network.specs.NetworkInside.{network_view}
use Rattle.tox_network.specs.Possible.{possible}
use Rattle.tox_network.specs.NetworkView.{state_of}
use Rattle.tox_network.proofs.Telling.{tells_at}
use Rattle.tox_network.proofs.network.Network.possible.Goals as goal

pub returns-then-is_empty-clause-rest : goal.returns-then-is_empty-clause-rest
returns-then-is_empty-clause-rest c =
    let reported : c.possible_before.result ≡ possible (state_of c.args.self.now) = grind (arith, common_steps) in
    (tells_at (network_view c.self.inside) c.args.self.now c.possible_before.result c.self.invariant c.self.view_is reported).rest

pub returns-then-is_empty-clause-some : goal.returns-then-is_empty-clause-some
returns-then-is_empty-clause-some c =
    let reported : c.possible_before.result ≡ possible (state_of c.args.self.now) = grind (arith, common_steps) in
    (tells_at (network_view c.self.inside) c.args.self.now c.possible_before.result c.self.invariant c.self.view_is reported).some

pub returns-then-is_empty-clause-empty : goal.returns-then-is_empty-clause-empty
returns-then-is_empty-clause-empty c =
    let reported : c.possible_before.result ≡ possible (state_of c.args.self.now) = grind (arith, common_steps) in
    (tells_at (network_view c.self.inside) c.args.self.now c.possible_before.result c.self.invariant c.self.view_is reported).empty

pub returns-else-is_empty-clause-rest : goal.returns-else-is_empty-clause-rest
returns-else-is_empty-clause-rest c =
    let reported : Some Deliver ≡ possible (state_of c.args.self.now) = grind (arith, common_steps) in
    (tells_at (network_view c.self.inside) c.args.self.now (Some Deliver) c.self.invariant c.self.view_is reported).rest
