-- The final was delivered.
use Rattle.std.proofs.Common.{◌∙◌, sym, ap, subst}
use Rattle.tox_network.specs.NetworkInside.{network_view}
use Rattle.tox_network.specs.runs.Runs.{IsAtRest}
use Rattle.tox_network.specs.NetworkView.{state_of}
use Rattle.tox_network.proofs.ShownItems.{outcome_shown}
use Rattle.tox_network.proofs.Sound.{final_at_rest}
use Rattle.tox_network.proofs.network.Network.outcome.Goals as goal

pub into_outcome-requires : goal.into_outcome-requires
into_outcome-requires c =
    final_at_rest (network_view c.self.inside) c.self.invariant (subst (λ network. IsAtRest network.cap (state_of network)) (sym c.self.view_is) c.requires)

pub returns-clause-outcome : goal.returns-clause-outcome
returns-clause-outcome c = outcome_shown c.into_outcome.result c.args.self.delivered (c.into_outcome.ensures ∙ ap (λ network. network.delivered) c.self.view_is)
