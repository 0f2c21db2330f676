-- The moves as the code makes them: a sound network after each, one step on.
use Rattle.std.proofs.Common.{◌≡◌, ◌≢◌, ℕ, ◌+◌, ◌<◌, List, [], ◌∷◌, ◌++◌, Some, map, take, drop, length, refl, sym, ◌∙◌, ap, subst, arith, ⊎_elim, set}
use Rattle.std.specs.Prelude.{slice_set}
use Rattle.std.specs.List.{slice_get}
use Rattle.std.specs.Option.{option_map}
use Rattle.std.proofs.lemmas.Bool.{cases_eq}
use Rattle.std.proofs.lemmas.List.{map-set}
use Rattle.std.proofs.lemmas.Option.{same_Some, slice_get-map, slice_get_within}
use Rattle.tox_time.specs.declared.streams.item.Item.{Item}
use Rattle.tox_defs.specs.stage.Stage.{Staged, taken}
use Rattle.tox_network.specs.declared.moves.Move.{Move}
use Rattle.tox_network.specs.declared.moves.Move.TheVariants.{Arrive, Take, Put, Deliver}
use Rattle.tox_network.specs.NetworkState.{NetworkState, StageState, queue}
use Rattle.tox_network.specs.Moves.{after, only_at}
use Rattle.tox_network.specs.NetworkView.{NetworkView, stage_of, state_of, IsStep, IsSoundNetwork}
use Rattle.tox_network.proofs.Replaced.{slice_get-set_same, slice_get-set_other}
use Rattle.tox_network.proofs.MoveForms.{arrive_is, take_is, put_is, deliver_is}
use Rattle.tox_network.proofs.Kept.{only_at-same, only_at-other}
use Rattle.tox_network.proofs.Sound.{stage_count, MovesOn, sound_after, step_made}

pub state_at : (network : NetworkView) (k : ℕ) (stage : Staged) → slice_get network.stages k ≡ Some stage
    → slice_get (state_of network).stages k ≡ Some (stage_of stage)
state_at network k stage at = slice_get-map stage_of network.stages k ∙ ap (option_map stage_of) at

-- the parts of a state
state_parts : (network : NetworkView) (waiting : List Item) (queues : List (List Item)) (stages : List StageState) (delivered : List Item)
    → network.waiting ≡ waiting → network.queues ≡ queues → map stage_of network.stages ≡ stages → network.delivered ≡ delivered
    → record { arrivals = waiting; queues = queues; stages = stages; delivered = delivered } ≡ state_of network
state_parts network waiting queues stages delivered a q s d =
    let make : List Item → List (List Item) → List StageState → List Item
    → NetworkState = λ ws qs ss ds. record { arrivals = ws; queues = qs; stages = ss; delivered = ds } in
    ap (λ ws. make ws queues stages delivered) (sym a)
    ∙ ap (λ qs. make network.waiting qs stages delivered) (sym q)
    ∙ ap (λ ss. make network.waiting network.queues ss delivered) (sym s)
    ∙ ap (make network.waiting network.queues (map stage_of network.stages)) (sym d)

pub arrive_made : (old new : NetworkView) (item : Item) → IsSoundNetwork old → old.waiting ≡ item ∷ new.waiting → length (queue (state_of old) 0) < old.cap
    → new.queues ≡ slice_set old.queues 0 (queue (state_of old) 0 ++ item ∷ []) → new.stages ≡ old.stages → new.delivered ≡ old.delivered
    → new.cap ≡ old.cap → new.arrived ≡ old.arrived → new.steps ≡ old.steps + 1 → IsSoundNetwork new × IsStep Arrive old new
arrive_made old new item sound first room queues stages delivered cap arrived steps =
    let made : after old.cap (state_of old) Arrive ≡ Some (state_of new) =
    arrive_is old.cap (state_of old) item new.waiting first room ∙ ap Some (state_parts new _ _ _ _ refl queues (ap (map stage_of) stages) delivered) in (
      sound_after old new Arrive sound made cap arrived steps (λ k stage at. (stage, ap (λ all. slice_get all k) (sym stages) ∙ at, refl)),
      step_made old new Arrive sound made cap arrived steps,
    )

pub take_made : (old new : NetworkView) (k : ℕ) (stage : Staged) (item : Item) → IsSoundNetwork old → slice_get old.stages k ≡ Some stage → stage.pending ≡ []
    → queue (state_of old) k ≡ item ∷ drop 1 (queue (state_of old) k)
    → new.queues ≡ slice_set old.queues k (drop 1 (queue (state_of old) k)) → new.stages ≡ slice_set old.stages k (taken stage item) → new.waiting ≡ old.waiting
    → new.delivered ≡ old.delivered
    → new.cap ≡ old.cap → new.arrived ≡ old.arrived → new.steps ≡ old.steps + 1 → IsSoundNetwork new × IsStep (Take k) old new
take_made old new k stage item sound at idle first queues stages waiting delivered cap arrived steps =
    let n : NetworkState = state_of old in
    let within : k < length old.stages = slice_get_within old.stages k stage at in
    let made : after old.cap n (Take k) ≡ Some (state_of new) =
    take_is n k (stage_of stage) item (drop 1 (queue n k)) (state_at old k stage at) idle first
    ∙ ap Some (state_parts new _ _ _ _ waiting queues (ap (map stage_of) stages ∙ map-set stage_of old.stages k (taken stage item)) delivered) in
    let places : (j : ℕ) (other : Staged) → slice_get new.stages j ≡ Some other
    → (before : Staged) × (slice_get old.stages j ≡ Some before) × MovesOn before.place (only_at k j (take 1 (queue n k))) other.place
    = λ j other there. ⊎_elim
    (λ (e : k ≡ j).
    let here : slice_get new.stages j ≡ Some (taken stage item) = ap (λ all. slice_get all j) stages
    ∙ subst (λ i. slice_get (set old.stages k (taken stage item)) i ≡ Some (taken stage item)) e (slice_get-set_same old.stages k (taken stage item) within)
    in
    let same : taken stage item ≡ other = same_Some _ _ (sym here ∙ there) in
    let one : only_at k j (take 1 (queue n k)) ≡ item ∷ [] = only_at-same k j (take 1 (queue n k)) (sym e) ∙ ap (take 1) first in (
      stage,
      subst (λ i. slice_get old.stages i ≡ Some stage) e at,
      subst (λ items. MovesOn stage.place items other.place) (sym one)
          (sym (ap (λ (s : Staged). s.place) same)),
    ))
    (λ (ne : k ≡ j → ⊥).
    let ne' : j ≢ k = omega arith in
    let none : only_at k j (take 1 (queue n k)) ≡ [] = only_at-other k j (take 1 (queue n k)) ne' in (
      other,
      sym (ap (λ all. slice_get all j) stages ∙ slice_get-set_other old.stages k j (taken stage item) ne')
          ∙ there,
      subst (λ items. MovesOn other.place items other.place) (sym none) refl,
    ))
    (cases_eq k j) in (
      sound_after old new (Take k) sound made cap arrived steps places,
      step_made old new (Take k) sound made cap arrived steps,
    )

pub put_made : (old new : NetworkView) (k : ℕ) (stage after_it : Staged) (item : Item) → IsSoundNetwork old → slice_get old.stages k ≡ Some stage
    → stage.pending ≡ item ∷ after_it.pending → after_it ≡ record stage { pending = after_it.pending } → length (queue (state_of old) (k + 1)) < old.cap
    → new.queues ≡ slice_set old.queues (k + 1) (queue (state_of old) (k + 1) ++ item ∷ []) → new.stages ≡ slice_set old.stages k after_it
    → new.waiting ≡ old.waiting → new.delivered ≡ old.delivered
    → new.cap ≡ old.cap → new.arrived ≡ old.arrived → new.steps ≡ old.steps + 1 → IsSoundNetwork new × IsStep (Put k) old new
put_made old new k stage after_it item sound at first emitted room queues stages waiting delivered cap arrived steps =
    let n : NetworkState = state_of old in
    let within : k < length old.stages = slice_get_within old.stages k stage at in
    let left : stage_of after_it ≡ record (stage_of stage) { unsent = after_it.pending } = ap stage_of emitted in
    let made : after old.cap n (Put k) ≡ Some (state_of new) =
    put_is old.cap n k (stage_of stage) item after_it.pending (state_at old k stage at) first room
    ∙ ap Some (state_parts new _ _ _ _ waiting queues (ap (map stage_of) stages ∙ map-set stage_of old.stages k after_it
    ∙ ap (set (map stage_of old.stages) k) left) delivered) in
    let places : (j : ℕ) (other : Staged) → slice_get new.stages j ≡ Some other
    → (before : Staged) × (slice_get old.stages j ≡ Some before) × (other.place ≡ before.place)
    = λ j other there. ⊎_elim
    (λ (e : k ≡ j).
    let here : slice_get new.stages j ≡ Some after_it = ap (λ all. slice_get all j) stages
    ∙ subst (λ i. slice_get (set old.stages k after_it) i ≡ Some after_it) e (slice_get-set_same old.stages k after_it within) in
    let same : after_it ≡ other = same_Some _ _ (sym here ∙ there) in
    (stage, subst (λ i. slice_get old.stages i ≡ Some stage) e at, sym (ap (λ (s : Staged). s.place) same) ∙ ap (λ (s : Staged). s.place) emitted))
    (λ (ne : k ≡ j → ⊥).
    let ne' : j ≢ k = omega arith in
    (other, sym (ap (λ all. slice_get all j) stages ∙ slice_get-set_other old.stages k j after_it ne') ∙ there, refl))
    (cases_eq k j) in (
      sound_after old new (Put k) sound made cap arrived steps places,
      step_made old new (Put k) sound made cap arrived steps,
    )

pub deliver_made : (old new : NetworkView) (item : Item) → IsSoundNetwork old
    → queue (state_of old) (length old.stages) ≡ item ∷ drop 1 (queue (state_of old) (length old.stages))
    → new.queues ≡ slice_set old.queues (length old.stages) (drop 1 (queue (state_of old) (length old.stages))) → new.delivered ≡ old.delivered ++ item ∷ []
    → new.stages ≡ old.stages → new.waiting ≡ old.waiting
    → new.cap ≡ old.cap → new.arrived ≡ old.arrived → new.steps ≡ old.steps + 1 → IsSoundNetwork new × IsStep Deliver old new
deliver_made old new item sound first queues delivered stages waiting cap arrived steps =
    let n : NetworkState = state_of old in
    let last = length n.stages in
    let count : length old.stages ≡ last = sym (stage_count old) in
    let here : queue n last ≡ item ∷ drop 1 (queue n last) = subst (λ k. queue n k ≡ item ∷ drop 1 (queue n k)) count first in
    let there : new.queues ≡ slice_set old.queues last (drop 1 (queue n last)) =
    subst (λ k. new.queues ≡ slice_set old.queues k (drop 1 (queue n k))) count queues in
    let made : after old.cap n Deliver ≡ Some (state_of new) =
    deliver_is n item (drop 1 (queue n last)) here ∙ ap Some (state_parts new _ _ _ _ waiting there (ap (map stage_of) stages) delivered) in
    let places : (j : ℕ) (other : Staged) → slice_get new.stages j ≡ Some other
    → (before : Staged) × (slice_get old.stages j ≡ Some before) × MovesOn before.place (only_at last j (take 1 (queue n last))) other.place
    = λ j other at.
    let before : slice_get old.stages j ≡ Some other = ap (λ all. slice_get all j) (sym stages) ∙ at in
    let within : j < length old.stages = slice_get_within old.stages j other before in
    let ne : j ≢ last = omega arith in
    (other, before, subst (λ items. MovesOn other.place items other.place) (sym (only_at-other last j (take 1 (queue n last)) ne)) refl) in (
      sound_after old new Deliver sound made cap arrived steps places,
      step_made old new Deliver sound made cap arrived steps,
    )

-- a step from the fields is one from the network that they are
pub step_from : {old now new : NetworkView} {move : Move} → old ≡ now → IsSoundNetwork new × IsStep move old new → IsStep move now new
step_from {old} {now} {new} {move} same made = subst (λ network. IsStep move network new) same made.1
