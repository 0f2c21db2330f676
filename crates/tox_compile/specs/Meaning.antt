-- What a plan does to a stream, and from when on arrivals change nothing.
use Rattle.std.specs.Prelude.{ℕ, ◌≤◌, min, All, List, [], ◌∷◌, length, map, Option, Some, None}
use Rattle.tox_time.specs.declared.streams.item.Item.{Item}
use Rattle.tox_words.specs.declared.lanes.Lanes.{Lanes}
use Rattle.tox_words.specs.Draw.{Draws, draw_in}
use Rattle.tox_defs.specs.declared.operations.op.Op.{Op}
use Rattle.tox_defs.specs.declared.operations.op.Op.TheVariants.{Mute, Cutoff, Halt}
use Rattle.tox_defs.specs.chain.Chain.{max_toxics}
use Rattle.tox_defs.specs.stage.Reaction.{Reaction, flow_through}
use Rattle.tox_defs.specs.operations.Op.{op_reaction, IsOp}

-- what a plan is seen as: its lanes, and its operations in order
pub record Ops : Type 0 where
  pub lanes : Lanes
  pub ops : List Op

-- what every plan keeps
pub record IsPlan (plan : Ops) : Type 0 where
  pub most : length plan.ops ≤ max_toxics
  pub operations : All IsOp plan.ops

-- the reactions of operations, in order
abbrev pub op_reactions : List Op → Draws → List Reaction
op_reactions ops draws = map (λ op. op_reaction op draws) ops

-- the meaning of a plan: what its operations give for a list, one after the other
abbrev pub means : Ops → List ℕ → List Item → List Item
means plan words items = flow_through (op_reactions plan.ops (draw_in plan.lanes words)) items

-- the earlier of an instant and one that may be
abbrev pub earlier : ℕ → Option ℕ → Option ℕ
earlier instant None = Some instant
earlier instant (Some other) = Some (min instant other)

-- the start where some operation mutes, else the earliest cutoff or instant of a halt, else none
abbrev pub deadline_of : List Op → Option ℕ
deadline_of [] = None
deadline_of (Mute end ∷ ops) = Some 0
deadline_of (Cutoff instant ∷ ops) = earlier instant (deadline_of ops)
deadline_of (Halt (Some at) after end ∷ ops) = earlier at (deadline_of ops)
deadline_of (op ∷ ops) = deadline_of ops
