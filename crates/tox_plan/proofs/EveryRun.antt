-- What has the table and the ending of a chain's flow is what every run of its stage network at rest delivered.
use Rattle.std.proofs.Common.{ℕ, List, sym, subst}
use Rattle.tox_time.specs.declared.streams.item.Item.{Item}
use Rattle.tox_time.specs.declared.streams.outcome.Outcome.{Outcome}
use Rattle.tox_time.specs.streams.Table.{IsOutcomeOf}
use Rattle.tox_defs.specs.chain.Chain.{Toxics}
use Rattle.tox_defs.specs.Flow.{chain_flow, reactions_of}
use Rattle.tox_network.specs.runs.Runs.{OfEveryRest}
use Rattle.tox_network.proofs.EveryRun.{every_rest_delivers}

pub outcome_of_every_rest : (chain : Toxics) (words : List ℕ) (items : List Item) (outcome : Outcome) → IsOutcomeOf (chain_flow chain words items) outcome
    → OfEveryRest chain words items (λ moves network. IsOutcomeOf network.delivered outcome)
outcome_of_every_rest chain words items outcome flow =
    λ cap moves network room run rest.
    subst (λ delivered. IsOutcomeOf delivered outcome) (sym (every_rest_delivers cap (reactions_of chain words) items moves network room run rest)) flow
