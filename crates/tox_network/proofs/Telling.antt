-- What it tells where `possible` tells a move, or none.
use Rattle.std.proofs.Common.{◌≡◌, ℕ, suc, ◌+◌, List, [], ◌∷◌, Option, Some, None, refl, sym, ◌∙◌, ap, subst, arith}
use Rattle.std.specs.List.{slice_get}
use Rattle.std.specs.Prelude.{◌↔◌, is_some, IsNone, IsSome, IfSome, IfNone}
use Rattle.std.proofs.lemmas.Option.{none-some}
use Rattle.tox_time.specs.declared.streams.item.Item.{Item}
use Rattle.tox_defs.specs.stage.Stage.{Staged}
use Rattle.tox_network.specs.declared.moves.Move.{Move}
use Rattle.tox_network.specs.declared.moves.Move.TheVariants.{Take, Put}
use Rattle.tox_network.specs.NetworkState.{queue, unsent_of}
use Rattle.tox_network.specs.Moves.{after}
use Rattle.tox_network.specs.runs.EventualDelivery.{IsEmpty}
use Rattle.tox_network.specs.runs.Runs.{IsAtRest}
use Rattle.tox_network.specs.Possible.{if_any, possible, possible_before}
use Rattle.tox_network.specs.NetworkView.{NetworkView, state_of, IsSoundNetwork}
use Rattle.tox_network.proofs.Resting.{Finds, finds_possible, empty_rest}
use Rattle.tox_network.proofs.Sound.{sound_shape}
use Rattle.tox_network.proofs.Made.{state_at}

-- what the clauses of `possible` say of its answer
pub record Tells (network : NetworkView) (reported : Option Move) : Type 0 where
  pub rest : IsNone reported ↔ IsAtRest network.cap (state_of network)
  pub some : IfSome reported (λ next. IsSome (after network.cap (state_of network) next))
  pub empty : IfNone reported (IsEmpty (state_of network))

tells_found : (network : NetworkView) (reported : Option Move) → Finds network.cap (state_of network) reported → Tells network reported
tells_found network None found = record { rest = (λ none. empty_rest network.cap (state_of network) found, λ rest. refl); some = tt; empty = found }
tells_found network (Some move) found = record {
  rest = (λ none. absurd (cc), λ rest. absurd (none-some found.0 (sym (rest move) ∙ found.1)));
  some = ap is_some found.1;
  empty = tt;
}

pub tells : (network : NetworkView) (reported : Option Move) → IsSoundNetwork network → reported ≡ possible (state_of network) → Tells network reported
tells network reported sound is =
    subst (Tells network) (sym is) (tells_found network (possible (state_of network))
    (finds_possible network.cap (state_of network) sound.room (sound_shape network sound)))

pub tells_at : (network now : NetworkView) (reported : Option Move) → IsSoundNetwork network → network ≡ now → reported ≡ possible (state_of now)
    → Tells now reported
tells_at network now reported sound same is = tells now reported (subst IsSoundNetwork same sound) is

-- an idle stage has no item, so its queue is looked at
pub before_idle : (network : NetworkView) (place k : ℕ) (stage : Staged) → k + 1 ≡ place → slice_get network.stages k ≡ Some stage → stage.pending ≡ []
    → possible_before (state_of network) place ≡ if_any (queue (state_of network) k) (Take k) (possible_before (state_of network) k)
before_idle network place k stage next at idle =
    let n = state_of network in
    let others : Option Move = if_any (queue n k) (Take k) (possible_before n k) in
    let same : suc k ≡ place = omega arith in
    subst (λ p. possible_before n p ≡ others) same (ap (λ one. if_any (unsent_of one) (Put k) others) (state_at network k stage at)
    ∙ ap (λ items. if_any items (Put k) others) idle)

pub any_some : (items : List Item) (move : Move) (other : Option Move) → (items ≡ [] → ⊥) → if_any items move other ≡ Some move
any_some [] move other some = absurd (some refl)
any_some (item ∷ items) move other some = refl

pub any_none : (items : List Item) (move : Move) (other : Option Move) → items ≡ [] → if_any items move other ≡ other
any_none items move other none = ap (λ all. if_any all move other) none

-- a stage that has an item puts it
pub before_busy : (network : NetworkView) (place k : ℕ) (stage : Staged) → k + 1 ≡ place → slice_get network.stages k ≡ Some stage → (stage.pending ≡ [] → ⊥)
    → possible_before (state_of network) place ≡ Some (Put k)
before_busy network place k stage next at busy =
    let n = state_of network in
    let others : Option Move = if_any (queue n k) (Take k) (possible_before n k) in
    let same : suc k ≡ place = omega arith in
    subst (λ p. possible_before n p ≡ Some (Put k)) same (ap (λ one. if_any (unsent_of one) (Put k) others) (state_at network k stage at)
    ∙ any_some stage.pending (Put k) others busy)
