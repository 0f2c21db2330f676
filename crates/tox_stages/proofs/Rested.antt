-- Stages that passed the arrivals on are a run at rest, and what they delivered lies within the arrivals.
use Rattle.std.proofs.Common.{ℕ, ◌≤◌, List, Some, sym, ◌∙◌, subst}
use Rattle.tox_time.specs.declared.streams.item.Item.{Item}
use Rattle.tox_time.specs.declared.streams.outcome.Outcome.{Outcome}
use Rattle.tox_time.specs.streams.Stream.{IsStream}
use Rattle.tox_time.specs.streams.Neighbours.{AreNeighbours}
use Rattle.tox_defs.specs.chain.Chain.{Toxics, IsChain}
use Rattle.tox_defs.specs.Flow.{reactions_of}
use Rattle.tox_defs.proofs.ChainStreams.{kept_by_chain}
use Rattle.tox_network.specs.Rings.{IsRunOf}
use Rattle.tox_network.specs.Shown.{shown}
use Rattle.tox_network.proofs.EveryRun.{rings_run, every_rest_delivers}
use Rattle.tox_stages.specs.AtRest.{IsNetworkAtRest}
use Rattle.tox_stages.specs.Passing.{PassesOn}
use Rattle.tox_defs.proofs.Within.{LieWithin}
use Rattle.tox_stages.proofs.Within.{chain_within, neighbours_shown}

pub network_at_rest : (cap : ℕ) (chain : Toxics) (words : List ℕ) (items : List Item) (outcome : Outcome) → 1 ≤ cap
    → PassesOn (reactions_of chain words) items (shown outcome.slices (Some outcome.ending)) → IsNetworkAtRest cap chain words items outcome
network_at_rest cap chain words items outcome room passes =
    let reactions = reactions_of chain words in
    let run : IsRunOf cap reactions items passes.rings = rings_run cap reactions items passes.rings room passes.passed in
    record {
      rings = passes.rings;
      passed = passes.passed;
      run = run;
      delivered = every_rest_delivers cap reactions items run.resting.moves run.resting.state room run.resting.run run.resting.rest ∙ sym passes.flowed;
    }

pub delivered_neighbours : (chain : Toxics) (words : List ℕ) (items : List Item) (outcome : Outcome) → IsChain chain
    → PassesOn (reactions_of chain words) items (shown outcome.slices (Some outcome.ending)) → AreNeighbours items 0 outcome.slices
delivered_neighbours chain words items outcome fits passes =
    neighbours_shown items 0 0 outcome.slices outcome.ending
    (subst IsStream (sym passes.flowed) (kept_by_chain chain words items fits passes.whole.stream).stream)
    (subst (LieWithin items) (sym passes.flowed) (chain_within chain words items))
