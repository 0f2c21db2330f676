-- The flows of a chain's first toxics are streams with few items; a stream has its final at the end and only there.
use Rattle.std.proofs.Common.{◌≡◌, ℕ, zero, suc, ◌+◌, ◌≤◌, false, List, [], ◌∷◌, ◌++◌, map, take, length, refl, arith}
use Rattle.std.specs.Prelude.{All}
use Rattle.std.proofs.lemmas.List.Elements.{All-head, All-tail}
use Rattle.tox_time.specs.declared.streams.item.Item.{Item}
use Rattle.tox_time.specs.declared.streams.item.Item.TheVariants.{Chunk, Closed, Reset, Quiet}
use Rattle.tox_time.specs.streams.Stream.{IsStreamFrom, IsStream, arrived, has_final}
use Rattle.tox_words.specs.Draw.{Draws}
use Rattle.tox_defs.specs.Toxic.{IsInRange}
use Rattle.tox_defs.specs.chain.Chain.{Toxics, IsChain}
use Rattle.tox_defs.specs.stage.Reaction.{flow_through}
use Rattle.tox_defs.specs.declared.chain.applied.Placed.{Placed}
use Rattle.tox_defs.specs.Flow.{toxic_reaction, applied, chain_draws, reactions_of}
use Rattle.tox_defs.specs.Laws.{toxic_flow, IsKeptBy}
use Rattle.tox_defs.proofs.ChainStreams.{toxic_keeps, in_range-applied}
use Rattle.tox_defs.proofs.Places.{length-stream}

-- what the first k toxics give for a stream
kept_by_first : (toxics : List Placed) (draws : Draws) (k : ℕ) (items : List Item) → All (λ placed. IsInRange placed.toxic) toxics → IsStream items
    → IsKeptBy items (flow_through (take k (map (λ placed. toxic_reaction placed.toxic (draws placed.place)) toxics)) items)
kept_by_first toxics draws zero items fit stream = record { stream = stream; bytes = omega arith }
kept_by_first [] draws (suc k) items fit stream = record { stream = stream; bytes = omega arith }
kept_by_first (placed ∷ toxics) draws (suc k) items fit stream =
    let first = toxic_keeps placed.toxic (All-head (λ placed. IsInRange placed.toxic) placed toxics fit) (draws placed.place) items stream in
    let others = kept_by_first toxics draws k (toxic_flow placed.toxic (draws placed.place) items)
    (All-tail (λ placed. IsInRange placed.toxic) placed toxics fit) first.stream in
    record { stream = others.stream; bytes = omega (arith, first.bytes, others.bytes) }

pub kept_by_front : (chain : Toxics) (words : List ℕ) (k : ℕ) (items : List Item) → IsChain chain → IsStream items
    → IsKeptBy items (flow_through (take k (reactions_of chain words)) items)
kept_by_front chain words k items fits stream = kept_by_first (applied chain words) (chain_draws chain words) k items (in_range-applied chain words fits) stream

pub few_in_front : (chain : Toxics) (words : List ℕ) (items : List Item) → IsChain chain → IsStream items → (k : ℕ) → k ≤ length (reactions_of chain words)
    → length (flow_through (take k (reactions_of chain words)) items) ≤ arrived items + 1
few_in_front chain words items fits stream k l =
    let kept = kept_by_front chain words k items fits stream in
    omega (arith, length-stream 0 0 (flow_through (take k (reactions_of chain words)) items) kept.stream, kept.bytes)

-- before the last item of a stream no final is
pub no_final_before : (position since : ℕ) (before : List Item) (item : Item) (rest : List Item) → IsStreamFrom position since (before ++ item ∷ rest)
    → has_final before ≡ false
no_final_before position since [] item rest stream = refl
no_final_before position since (Chunk span t ∷ before) item rest stream = no_final_before span.stop t before item rest stream.4
no_final_before position since (Closed t ∷ []) item rest stream = absurd (let none = stream.2 in cc)
no_final_before position since (Closed t ∷ (other ∷ before)) item rest stream = absurd (let none = stream.2 in cc)
no_final_before position since (Reset t ∷ []) item rest stream = absurd (let none = stream.2 in cc)
no_final_before position since (Reset t ∷ (other ∷ before)) item rest stream = absurd (let none = stream.2 in cc)
no_final_before position since (Quiet ∷ []) item rest stream = absurd (cc)
no_final_before position since (Quiet ∷ (other ∷ before)) item rest stream = absurd (cc)
