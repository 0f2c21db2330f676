-- Chains give streams for streams, of the same bytes or fewer.
use Rattle.std.proofs.Common.{ℕ, ◌+◌, ◌%◌, Bool, true, false, List, [], ◌∷◌, map, arith, if◌then◌else◌}
use Rattle.std.specs.Prelude.{All, nat_lt}
use Rattle.std.proofs.lemmas.List.Elements.{All-nil, All-cons, All-head, All-tail}
use Rattle.tox_time.specs.declared.streams.item.Item.{Item}
use Rattle.tox_time.specs.streams.Stream.{IsStream}
use Rattle.tox_words.specs.Draw.{Draws}
use Rattle.tox_defs.specs.declared.chain.Entry.{Entry}
use Rattle.tox_defs.specs.declared.toxic.Toxic.{Toxic}
use Rattle.tox_defs.specs.Toxic.{IsInRange}
use Rattle.tox_defs.specs.chain.Chain.{Toxics, IsEntry, IsChain}
use Rattle.tox_defs.specs.stage.Reaction.{flow_through}
use Rattle.tox_defs.specs.declared.chain.applied.Placed.{Placed}
use Rattle.tox_defs.specs.Flow.{toxic_reaction, applied_from, applied, chain_draws, chain_flow}
use Rattle.tox_defs.specs.Laws.{toxic_flow, IsKeptBy, KeepsStreams}
use Rattle.tox_defs.proofs.ToxicStreams.{IsStream-toxic_flow, arrived-toxic_flow}

applied_by : (met : Bool) (place : ℕ) (entry : Entry) (others : List Placed) → IsInRange entry.toxic → All (λ placed. IsInRange placed.toxic) others
    → All (λ placed. IsInRange placed.toxic) (if met then record { place = place; toxic = entry.toxic } ∷ others else others)
applied_by true place entry others fits rest = All-cons (λ placed. IsInRange placed.toxic) (record { place = place; toxic = entry.toxic }) others fits rest
applied_by false place entry others fits rest = rest

in_range-applied_from : (place : ℕ) (entries : List Entry) (draws : Draws) → All IsEntry entries
    → All (λ placed. IsInRange placed.toxic) (applied_from place entries draws)
in_range-applied_from place [] draws fits = All-nil (λ placed. IsInRange placed.toxic)
in_range-applied_from place (entry ∷ entries) draws fits =
    let first : IsEntry entry = All-head IsEntry entry entries fits in
    applied_by (nat_lt (draws place 0 % 1000) entry.toxicity) place entry (applied_from (place + 1) entries draws) first.0
    (in_range-applied_from (place + 1) entries draws (All-tail IsEntry entry entries fits))

-- the applied toxics of a chain are in range
pub in_range-applied : (chain : Toxics) (words : List ℕ) → IsChain chain → All (λ placed. IsInRange placed.toxic) (applied chain words)
in_range-applied chain words fits = in_range-applied_from 0 chain.entries (chain_draws chain words) fits.entries_fit

pub toxic_keeps : (toxic : Toxic) → IsInRange toxic → KeepsStreams toxic
toxic_keeps toxic fits words items stream =
    record { stream = IsStream-toxic_flow toxic words items fits stream; bytes = arrived-toxic_flow toxic words items }

-- toxics, one after the other
pub kept_by_toxics : (toxics : List Placed) (draws : Draws) (items : List Item) → All (λ placed. IsInRange placed.toxic) toxics → IsStream items
    → IsKeptBy items (flow_through (map (λ placed. toxic_reaction placed.toxic (draws placed.place)) toxics) items)
kept_by_toxics [] draws items fit stream = record { stream = stream; bytes = omega arith }
kept_by_toxics (placed ∷ toxics) draws items fit stream =
    let first = toxic_keeps placed.toxic (All-head (λ placed. IsInRange placed.toxic) placed toxics fit) (draws placed.place) items stream in
    let others = kept_by_toxics toxics draws (toxic_flow placed.toxic (draws placed.place) items)
    (All-tail (λ placed. IsInRange placed.toxic) placed toxics fit) first.stream in
    record { stream = others.stream; bytes = omega (arith, first.bytes, others.bytes) }

pub kept_by_chain : (chain : Toxics) (words : List ℕ) (items : List Item) → IsChain chain → IsStream items → IsKeptBy items (chain_flow chain words items)
kept_by_chain chain words items fits stream = kept_by_toxics (applied chain words) (chain_draws chain words) items (in_range-applied chain words fits) stream
