-- One operation for each applied toxic means what the chain does.
use Rattle.std.proofs.Common.{◌≡◌, ℕ, List, [], ◌∷◌, map, refl, ap, ◌∙◌}
use Rattle.std.specs.Prelude.{All}
use Rattle.std.proofs.lemmas.List.Elements.{All-nil, All-cons, All-head, All-tail}
use Rattle.tox_time.specs.declared.streams.item.Item.{Item}
use Rattle.tox_words.specs.Draw.{Draws}
use Rattle.tox_defs.specs.Toxic.{IsInRange}
use Rattle.tox_defs.specs.chain.Chain.{Toxics, IsChain}
use Rattle.tox_defs.specs.stage.Reaction.{flow_through}
use Rattle.tox_defs.specs.declared.chain.applied.Placed.{Placed}
use Rattle.tox_defs.specs.Flow.{toxic_reaction, applied, chain_draws, chain_flow}
use Rattle.tox_defs.specs.operations.Op.{IsOp}
use Rattle.tox_defs.proofs.ToxicProofs.{toxic_facts}
use Rattle.tox_defs.proofs.ChainStreams.{in_range-applied}
use Rattle.tox_compile.specs.Compiled.{op_of_placed, applied_ops}
use Rattle.tox_compile.specs.Meaning.{op_reactions, means}

reactions-placed : (draws : Draws) (toxics : List Placed) → op_reactions (map op_of_placed toxics) draws
    ≡ map (λ placed. toxic_reaction placed.toxic (draws placed.place)) toxics
reactions-placed draws [] = refl
reactions-placed draws (placed ∷ toxics) =
    ap (λ reaction. reaction ∷ op_reactions (map op_of_placed toxics) draws) ((toxic_facts placed.toxic).reacts placed.place draws)
    ∙ ap (λ reactions. toxic_reaction placed.toxic (draws placed.place) ∷ reactions) (reactions-placed draws toxics)

-- for every list of items
pub means-applied_ops : (chain : Toxics) (words : List ℕ) (items : List Item)
    → means (record { lanes = chain.lanes; ops = applied_ops chain words }) words items ≡ chain_flow chain words items
means-applied_ops chain words items = ap (λ reactions. flow_through reactions items) (reactions-placed (chain_draws chain words) (applied chain words))

operations-placed : (toxics : List Placed) → All (λ placed. IsInRange placed.toxic) toxics → All IsOp (map op_of_placed toxics)
operations-placed [] fit = All-nil IsOp
operations-placed (placed ∷ toxics) fit =
    All-cons IsOp (op_of_placed placed) (map op_of_placed toxics)
    ((toxic_facts placed.toxic).is_op placed.place (All-head (λ placed. IsInRange placed.toxic) placed toxics fit))
    (operations-placed toxics (All-tail (λ placed. IsInRange placed.toxic) placed toxics fit))

-- the operations of a chain are operations that a plan may have
pub operations-applied_ops : (chain : Toxics) (words : List ℕ) → IsChain chain → All IsOp (applied_ops chain words)
operations-applied_ops chain words fits = operations-placed (applied chain words) (in_range-applied chain words fits)
