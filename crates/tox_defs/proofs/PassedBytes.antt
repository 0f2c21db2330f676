-- Reactions that give no more bytes than they took.
use Rattle.std.proofs.Common.{ℕ, zero, suc, ◌+◌, ◌-◌, ◌≤◌, min, max, Bool, true, false, List, [], ◌∷◌, arith, if◌then◌else◌}
use Rattle.tox_time.specs.declared.streams.item.Item.{Item}
use Rattle.tox_time.specs.Time.{plus}
use Rattle.tox_time.specs.streams.Stream.{arrived}
use Rattle.tox_time.proofs.StreamLemmas.{arrived-append}
use Rattle.tox_defs.specs.declared.operations.state.State.{State}
use Rattle.tox_defs.specs.stage.Reaction.{Reaction, react, flow_from}
use Rattle.tox_defs.specs.toxics.Pieces.{cut, leave}

-- what is given for an item has no more bytes than the item
abbrev pub PassesAtMost : Reaction → Type 0
PassesAtMost reaction = (state : State) (item : Item) → arrived (reaction state item).given ≤ arrived (item ∷ [])

-- pieces have no more bytes than they were cut from
pub arrived-leave : (size wait : ℕ → ℕ) (number start left most since t : ℕ) → arrived (leave wait since t (cut size number start left most)) ≤ left
arrived-leave size wait number start zero most since t = omega arith
arrived-leave size wait number start (suc left) zero since t = omega arith
arrived-leave size wait number start (suc left) (suc most) since t =
    omega (
      arith,
      arrived-leave size wait (number + 1) (start + min (size number) (suc left)) (suc left - size number) most
          (plus (max since t) (wait (start + min (size number) (suc left) - start))) t,
    )

react-passes : (done : Bool) (reaction : Reaction) (state : State) (item : Item) → PassesAtMost reaction
    → arrived (if done then (record { state = state; given = [] }) else reaction state item).given ≤ arrived (item ∷ [])
react-passes true reaction state item passes = omega arith
react-passes false reaction state item passes = passes state item

-- a flow has no more bytes than what it is the flow of
pub arrived-flow_from : (reaction : Reaction) → PassesAtMost reaction → (state : State) (items : List Item)
    → arrived (flow_from reaction state items) ≤ arrived items
arrived-flow_from reaction passes state [] = omega arith
arrived-flow_from reaction passes state (item ∷ items) =
    let first = react-passes state.done reaction state item passes in
    let later = arrived-flow_from reaction passes (react reaction state item).state items in
    omega (
      arith,
      arrived-append (react reaction state item).given (flow_from reaction (react reaction state item).state items),
      arrived-append (item ∷ []) items,
      first,
      later,
    )
