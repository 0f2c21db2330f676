-- Toxics that give finals in order keep one that comes no earlier than what they gave, whatever their time.
use Rattle.std.proofs.Common.{◌≡◌, ℕ, List, [], ◌∷◌, ◌++◌, refl, ap, ◌∙◌}
use Rattle.tox_time.specs.declared.streams.item.Item.{Item}
use Rattle.tox_time.specs.declared.streams.ending.Ending.{Ending}
use Rattle.tox_time.specs.declared.streams.ending.Ending.TheVariants.{StillOpen, Closed, Reset}
use Rattle.tox_time.specs.streams.Table.{final_of}
use Rattle.tox_defs.specs.declared.operations.state.State.{State}
use Rattle.tox_defs.specs.operations.During.{during}
use Rattle.tox_defs.specs.stage.Reaction.{Answer, Giving, counted, flow_from}
use Rattle.tox_defs.specs.toxics.Bandwidth.{pace_gives}
use Rattle.tox_defs.specs.toxics.Latency.{delay_gives}
use Rattle.tox_defs.specs.toxics.Ordered.{in_order}
use Rattle.tox_defs.specs.toxics.Slicer.{slicing_gives}
use Rattle.tox_defs.proofs.OpenStates.{open_state}
use Rattle.tox_defs.proofs.Windows.{during-inside, is_outside-final}

-- finals are given in order
abbrev pub OrdersFinals : Giving → Type 0
OrdersFinals giving = (state : State) (end : Ending) → giving state (final_of end) ≡ in_order state.previous (final_of end) ∷ []

pub delay-orders : (wait : ℕ → ℕ) → OrdersFinals (delay_gives wait)
delay-orders wait state StillOpen = refl
delay-orders wait state (Closed t) = refl
delay-orders wait state (Reset t) = refl

pub pace-orders : (rate : ℕ) → OrdersFinals (pace_gives rate)
pace-orders rate state StillOpen = refl
pace-orders rate state (Closed t) = refl
pace-orders rate state (Reset t) = refl

pub slicing-orders : (size : ℕ → ℕ) (micros : ℕ) → OrdersFinals (slicing_gives size micros)
slicing-orders size micros state StillOpen = refl
slicing-orders size micros state (Closed t) = refl
slicing-orders size micros state (Reset t) = refl

-- a final that is in order stays as it is
pub final-kept : (from until : ℕ) (giving : Giving) (end : Ending) (p c n b : ℕ) → OrdersFinals giving → in_order p (final_of end) ≡ final_of end
    → flow_from (during from until (counted giving)) (open_state p c n b) (final_of end ∷ []) ≡ final_of end ∷ []
final-kept from until giving end p c n b orders same =
    ap (λ (answer : Answer). answer.given ++ []) (during-inside from until (counted giving) (open_state p c n b) (final_of end)
    (is_outside-final from until end))
    ∙ ap (λ (given : List Item). given ++ []) (orders (open_state p c n b) end)
    ∙ ap (λ (item : Item). item ∷ []) same
