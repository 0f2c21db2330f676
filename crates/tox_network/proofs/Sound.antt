-- A network stays sound with every move.
use Rattle.std.proofs.Common.{◌≡◌, ℕ, zero, suc, ◌+◌, ◌*◌, ◌<◌, ◌≤◌, ◌^◌, Bool, true, false, List, [], ◌∷◌, ◌++◌, Some, map, take, replicate, length, refl, sym}
use Rattle.std.proofs.Common.{◌∙◌, ap, subst, arith, if◌then◌else◌}
use Rattle.std.specs.List.{slice_get}
use Rattle.std.proofs.lemmas.List.{length-map, length-replicate, take_all}
use Rattle.std.proofs.lemmas.Option.{none-some, same_Some, slice_get_within}
use Rattle.std.proofs.Math.Nat.{mul-le-mul_left}
use Rattle.tox_time.specs.declared.streams.item.Item.{Item}
use Rattle.tox_time.specs.streams.Stream.{IsStream, arrived, has_final}
use Rattle.tox_words.specs.Draw.{Draws, DrawingView, draws_of}
use Rattle.tox_time.proofs.StreamLemmas.{final_of_stream}
use Rattle.tox_defs.specs.declared.chain.Entry.{Entry}
use Rattle.tox_time.specs.declared.streams.position.StreamPosition.{StreamPosition}
use Rattle.tox_defs.specs.chain.Applied.{is_applied}
use Rattle.tox_defs.specs.chain.Chain.{Toxics, IsChain, max_toxics}
use Rattle.tox_defs.specs.stage.Reaction.{flow_through}
use Rattle.tox_defs.specs.declared.chain.applied.Placed.{Placed}
use Rattle.tox_defs.specs.Flow.{toxic_reaction, applied_from, applied, chain_drawing, chain_draws, reactions_of}
use Rattle.tox_time.specs.streams.StreamPosition.{fits, first_position, position_after, AllFit}
use Rattle.tox_defs.specs.stage.Stage.{Staged}
use Rattle.tox_words.proofs.LaneCounts.{lane_count-most}
use Rattle.tox_defs.proofs.ToxicProofs.{toxic_facts}
use Rattle.tox_defs.proofs.Places.{AllFit-stream}
use Rattle.tox_network.specs.declared.moves.Move.{Move}
use Rattle.tox_network.specs.NetworkState.{NetworkState, StageState, idle_stage, start, queue}
use Rattle.tox_network.specs.Moves.{after, leaving}
use Rattle.tox_network.specs.runs.EventualDelivery.{coming, eventual_delivery, moves_left, most_moves}
use Rattle.tox_network.specs.runs.Runs.{IsAtRest}
use Rattle.tox_network.specs.NetworkView.{NetworkView, stage_of, placed_stage, state_of, IsStart, IsStep, IsSoundNetwork}
use Rattle.tox_network.proofs.Coming.{IsShaped, coming_first}
use Rattle.tox_network.proofs.Kept.{keeps_stages, keeps_shape, keeps_eventual_delivery, leaves, one_less}
use Rattle.tox_network.proofs.Starting.{start_coming, start_eventual_delivery, start_moves}
use Rattle.tox_network.proofs.Resting.{rest_empty, empty_eventual_delivery}
use Rattle.tox_network.proofs.Streams.{kept_by_front, few_in_front, no_final_before}

pub stage_count : (network : NetworkView) → length (state_of network).stages ≡ length network.stages
stage_count network = length-map network.stages stage_of

pub sound_shape : (network : NetworkView) → IsSoundNetwork network → IsShaped (state_of network)
sound_shape network sound = sound.shaped ∙ ap (λ count. count + 1) (sym (stage_count network))

-- The places of stages

-- a place moves on behind these items
abbrev pub MovesOn : StreamPosition → List Item → StreamPosition → Type 0
MovesOn place [] next = next ≡ place
MovesOn place (item ∷ items) next = MovesOn (position_after place item) items next

AllFit-behind : (place : StreamPosition) (items rest : List Item) (next : StreamPosition) → AllFit place (items ++ rest) → MovesOn place items next
    → AllFit next rest
AllFit-behind place [] rest next fit on = subst (λ here. AllFit here rest) (sym on) fit
AllFit-behind place (item ∷ items) rest next fit on = AllFit-behind (position_after place item) items rest next fit.1 on

-- the place of each stage moved on behind what the move took out of the queue before it
abbrev pub PlacesMoveOn : Move → NetworkView → NetworkView → Type 0
PlacesMoveOn move old new =
    (k : ℕ) (stage : Staged) → slice_get new.stages k ≡ Some stage →
    (before : Staged) × (slice_get old.stages k ≡ Some before) × MovesOn before.place (leaving (state_of old) move k) stage.place

-- Moves

pub sound_after : (old new : NetworkView) (move : Move) → IsSoundNetwork old → after old.cap (state_of old) move ≡ Some (state_of new) → new.cap ≡ old.cap
    → new.arrived ≡ old.arrived → new.steps ≡ old.steps + 1 → PlacesMoveOn move old new → IsSoundNetwork new
sound_after old new move sound made cap arrived steps places =
    let n : NetworkState = state_of old in
    let t : NetworkState = state_of new in
    let shaped : IsShaped n = sound_shape old sound in
    let count : length new.stages ≡ length old.stages = sym (stage_count new) ∙ keeps_stages old.cap n t move made ∙ stage_count old in
    let most : most_moves (length new.stages) new.arrived ≡ most_moves (length old.stages) old.arrived = ap (λ stages. most_moves stages new.arrived) count
    ∙ ap (most_moves (length old.stages)) arrived in
    let left : moves_left n ≡ moves_left t + 1 = one_less old.cap n t move shaped made in
    let few : old.steps + moves_left n ≤ most_moves (length old.stages) old.arrived = sound.few in
    record {
      room = subst (λ room. 1 ≤ room) (sym cap) sound.room;
      shaped = keeps_shape old.cap n t move shaped made ∙ ap (λ stages. stages + 1) (stage_count new);
      fits = λ k stage at.
          let moved = places k stage at in
          let within : k ≤ length n.stages = let here = slice_get_within old.stages k moved.0 moved.1 in let same = stage_count old in omega arith in
          let fit : AllFit moved.0.place (leaving n move k ++ coming t k) =
          subst (AllFit moved.0.place) (leaves old.cap n t move shaped made k within) (sound.fits k moved.0 moved.1) in
          AllFit-behind moved.0.place (leaving n move k) (coming t k) stage.place fit moved.2;
      whole = subst IsStream (sym (keeps_eventual_delivery old.cap n t move shaped made)) sound.whole;
      few = subst (λ bound. new.steps + moves_left t ≤ bound) (sym most) (omega arith);
      small = subst (λ bound. bound < 2 ^ 64) (sym most) sound.small;
    }

pub step_made : (old new : NetworkView) (move : Move) → IsSoundNetwork old → after old.cap (state_of old) move ≡ Some (state_of new) → new.cap ≡ old.cap
    → new.arrived ≡ old.arrived → new.steps ≡ old.steps + 1 → IsStep move old new
step_made old new move sound made cap arrived steps =
    let shaped = sound_shape old sound in
    record {
      moved = made;
      counted = steps;
      cap = cap;
      arrived = arrived;
      eventual = keeps_eventual_delivery old.cap (state_of old) (state_of new) move shaped made;
      left = one_less old.cap (state_of old) (state_of new) move shaped made;
    }

-- the first item of a queue may be taken
pub may_take : (network : NetworkView) (k : ℕ) (stage : Staged) (item : Item) (rest : List Item) → IsSoundNetwork network
    → slice_get network.stages k ≡ Some stage → queue (state_of network) k ≡ item ∷ rest → fits stage.place item ≡ true
may_take network k stage item rest sound at first =
    let comes = coming_first (state_of network) k item rest first in
    (subst (AllFit stage.place) comes.1 (sound.fits k stage at)).0

-- while an item is still to be delivered no final was
pub no_final_yet : (network : NetworkView) (item : Item) (rest : List Item) → IsSoundNetwork network
    → queue (state_of network) (length network.stages) ≡ item ∷ rest → has_final network.delivered ≡ false
no_final_yet network item rest sound first =
    let here : queue (state_of network) (length (state_of network).stages) ≡ item ∷ rest =
    subst (λ k. queue (state_of network) k ≡ item ∷ rest) (sym (stage_count network)) first in
    let comes = coming_first (state_of network) (length (state_of network).stages) item rest here in
    no_final_before 0 0 network.delivered item comes.0 (subst (λ items. IsStream (network.delivered ++ items)) comes.1 sound.whole)

-- at rest the final was delivered
pub final_at_rest : (network : NetworkView) → IsSoundNetwork network → IsAtRest network.cap (state_of network) → has_final network.delivered ≡ true
final_at_rest network sound rest =
    let empty = rest_empty network.cap (state_of network) sound.room (sound_shape network sound) rest in
    final_of_stream 0 0 network.delivered (subst IsStream (empty_eventual_delivery (state_of network) empty) sound.whole)

-- The start

applied_no_more : (met : Bool) (placed : Placed) (others : List Placed) (most : ℕ) → length others ≤ most
    → length (if met then placed ∷ others else others) ≤ 1 + most
applied_no_more true placed others most few = omega arith
applied_no_more false placed others most few = omega arith

length-applied_from : (place : ℕ) (entries : List Entry) (draws : Draws) → length (applied_from place entries draws) ≤ length entries
length-applied_from place [] draws = omega arith
length-applied_from place (entry ∷ entries) draws =
    let before = applied_no_more (is_applied entry place draws) (record { place = place; toxic = entry.toxic }) (applied_from (place + 1) entries draws)
    (length entries) (length-applied_from (place + 1) entries draws) in
    omega (arith, before)

-- the stages of toxics as the definitions see them
states_of_toxics : (toxics : List Placed) (drawing : DrawingView) → map stage_of (map (placed_stage drawing) toxics)
    ≡ map idle_stage (map (λ placed. toxic_reaction placed.toxic (draws_of drawing placed.place)) toxics)
states_of_toxics [] drawing = refl
states_of_toxics (placed ∷ toxics) drawing =
    ap (λ reaction. idle_stage reaction ∷ map stage_of (map (placed_stage drawing) toxics)) ((toxic_facts placed.toxic).reacts placed.place (draws_of drawing))
    ∙ ap (λ stages. idle_stage (toxic_reaction placed.toxic (draws_of drawing placed.place)) ∷ stages) (states_of_toxics toxics drawing)

places_of_toxics : (toxics : List Placed) (drawing : DrawingView) (k : ℕ) (stage : Staged) → slice_get (map (placed_stage drawing) toxics) k ≡ Some stage
    → stage.place ≡ first_position
places_of_toxics [] drawing k stage at = absurd (none-some stage at)
places_of_toxics (placed ∷ toxics) drawing zero stage at = sym (ap (λ (one : Staged). one.place) (same_Some _ _ at))
places_of_toxics (placed ∷ toxics) drawing (suc k) stage at = places_of_toxics toxics drawing k stage at

-- a network as it is made
pub first_network : ℕ → DrawingView → List Placed → List Item → NetworkView
first_network cap drawing toxics items = record {
  cap = cap;
  arrived = items;
  steps = 0;
  waiting = items;
  queues = replicate (length toxics + 1) [];
  stages = map (placed_stage drawing) toxics;
  delivered = [];
}

pub first_state_of : (cap : ℕ) (chain : Toxics) (words : List ℕ) (items : List Item)
    → state_of (first_network cap (chain_drawing chain words) (applied chain words) items) ≡ start (reactions_of chain words) items
unfolding first_network
first_state_of cap chain words items =
    let toxics = applied chain words in
    let with : List (List Item) → List StageState → NetworkState = λ queues stages.
    record { arrivals = items; queues = queues; stages = stages; delivered = [] } in
    let same : length toxics ≡ length (reactions_of chain words) = sym (length-map toxics
    (λ placed. toxic_reaction placed.toxic (chain_draws chain words placed.place))) in
    ap (λ count. with (replicate (count + 1) []) (map stage_of (map (placed_stage (chain_drawing chain words)) toxics))) same
    ∙ ap (with (replicate (length (reactions_of chain words) + 1) [])) (states_of_toxics toxics (chain_drawing chain words))

pub sound_start : (cap : ℕ) (chain : Toxics) (words : List ℕ) (items : List Item) → 1 ≤ cap → IsChain chain → IsStream items → arrived items ≤ 2 ^ 40
    → IsSoundNetwork (first_network cap (chain_drawing chain words) (applied chain words) items)
unfolding first_network
sound_start cap chain words items room fits stream bytes =
    let toxics = applied chain words in
    let reactions = reactions_of chain words in
    let network : NetworkView = first_network cap (chain_drawing chain words) toxics items in
    let is : state_of network ≡ start reactions items = first_state_of cap chain words items in
    let count : length network.stages ≡ length reactions = length-map toxics (placed_stage (chain_drawing chain words))
    ∙ sym (length-map toxics (λ placed. toxic_reaction placed.toxic (chain_draws chain words placed.place))) in
    let no_item : List Item = [] in
    let most : length network.stages ≤ max_toxics = omega (
      arith,
      length-map toxics (placed_stage (chain_drawing chain words)),
      length-applied_from 0 chain.entries (chain_draws chain words),
      fits.most,
      lane_count-most chain.lanes,
    ) in
    let moves : moves_left (start reactions items) ≤ most_moves (length reactions) items =
    start_moves reactions items (arrived items + 1) (few_in_front chain words items fits stream) in
    let product : (2 * length network.stages + 2) * (arrived items + 1) ≤ (2 * length network.stages + 2) * (2 ^ 40 + 1) =
    mul-le-mul_left (2 * length network.stages + 2) (omega arith) in
    record {
      room = room;
      shaped = omega (arith, length-replicate (length toxics + 1) no_item, length-map toxics (placed_stage (chain_drawing chain words)));
      fits = λ k stage at.
          let within : k ≤ length reactions = let here = slice_get_within network.stages k stage at in omega arith in
          let kept = kept_by_front chain words k items fits stream in
          let comes : coming (state_of network) k ≡ flow_through (take k reactions) items = ap (λ n. coming n k) is ∙ start_coming reactions items k within in
          subst (λ place. AllFit place (coming (state_of network) k)) (sym (places_of_toxics toxics (chain_drawing chain words) k stage at))
          (subst (AllFit first_position) (sym comes) (AllFit-stream 0 0 (flow_through (take k reactions) items) kept.stream (omega (arith, kept.bytes))));
      whole =
          let kept = kept_by_front chain words (length reactions) items fits stream in
          subst IsStream (sym (ap eventual_delivery is ∙ start_eventual_delivery reactions items
          ∙ ap (λ all. flow_through all items) (sym (take_all (length reactions) reactions (omega arith))))) kept.stream;
      few = subst (λ stages. 0 + moves_left (state_of network) ≤ most_moves stages items) (sym count)
          (subst (λ n. 0 + moves_left n ≤ most_moves (length reactions) items) (sym is) (omega arith));
      small = omega arith;
    }

-- a network made of these parts is sound, and made no move yet
pub first_made : (network : NetworkView) (cap : ℕ) (chain : Toxics) (words : List ℕ) (items : List Item) → 1 ≤ cap → IsChain chain → IsStream items
    → arrived items ≤ 2 ^ 40
    → network.cap ≡ cap → network.arrived ≡ items → network.steps ≡ 0 → network.waiting ≡ items → network.queues ≡ replicate (length network.stages + 1) []
    → network.stages ≡ map (placed_stage (chain_drawing chain words)) (applied chain words) → network.delivered ≡ []
    → IsSoundNetwork network × IsStart chain words items cap network
unfolding first_network
first_made network cap chain words items room fits stream bytes same_cap same_arrived same_steps same_waiting same_queues same_stages same_delivered =
    let toxics = applied chain words in
    let make : ℕ → List Item → ℕ → List Item → List (List Item) → List Staged → List Item → NetworkView
    = λ c a n w q s d. record { cap = c; arrived = a; steps = n; waiting = w; queues = q; stages = s; delivered = d } in
    let queues : network.queues ≡ replicate (length toxics + 1) [] = same_queues
    ∙ ap (λ count. replicate (count + 1) []) (ap length same_stages ∙ length-map toxics (placed_stage (chain_drawing chain words))) in
    let same : network ≡ first_network cap (chain_drawing chain words) toxics items =
    ap (λ c. make c network.arrived network.steps network.waiting network.queues network.stages network.delivered) same_cap
    ∙ ap (λ a. make cap a network.steps network.waiting network.queues network.stages network.delivered) same_arrived
    ∙ ap (λ n. make cap items n network.waiting network.queues network.stages network.delivered) same_steps
    ∙ ap (λ w. make cap items 0 w network.queues network.stages network.delivered) same_waiting
    ∙ ap (λ q. make cap items 0 items q network.stages network.delivered) queues
    ∙ ap (λ s. make cap items 0 items (replicate (length toxics + 1) []) s network.delivered) same_stages
    ∙ ap (make cap items 0 items (replicate (length toxics + 1) []) (map (placed_stage (chain_drawing chain words)) toxics)) same_delivered in (
      subst IsSoundNetwork (sym same) (sound_start cap chain words items room fits stream bytes),
      record { state = ap state_of same ∙ first_state_of cap chain words items; cap = same_cap; arrived = same_arrived; steps = same_steps },
    )
