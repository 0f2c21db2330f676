-- An arrival entered queue 0.
use Rattle.std.proofs.Common.{refl, rules}
use Rattle.tox_network.specs.NetworkInside.{network_view}
use Rattle.tox_network.proofs.Made.{arrive_made, step_from}
use Rattle.tox_network.proofs.network.Network.arrive.Goals as goal

pub invariant_of-self : goal.invariant_of-self
invariant_of-self c =
    (arrive_made (network_view c.self.inside) _ c.pop-item.result c.self.invariant c.pop-item.ensures.next (search rules) c.push.ensures.pushed refl refl
    c.push.ensures.room c.pop-item.ensures.arrived refl).0

pub returns-clause-moved : goal.returns-clause-moved
returns-clause-moved c = λ _.
    step_from c.self.view_is
    (arrive_made (network_view c.self.inside) _ c.pop-item.result c.self.invariant c.pop-item.ensures.next (search rules) c.push.ensures.pushed refl refl
    c.push.ensures.room c.pop-item.ensures.arrived refl)
