-- What holds from the one end of a run to the other.
use Rattle.std.proofs.Common.{ℕ, ◌+◌, ◌≤◌, ◌≡◌, List, [], ◌∷◌, ◌++◌, Option, Some, None, length, refl, sym, ◌∙◌, ap, subst, arith, append_assoc}
use Rattle.std.specs.Option.{option_and_then, option_map_or}
use Rattle.std.proofs.lemmas.Option.{none-some, same_Some}
use Rattle.tox_network.specs.declared.moves.Move.{Move}
use Rattle.tox_network.specs.NetworkState.{NetworkState}
use Rattle.tox_network.specs.Moves.{after, entering, leaving}
use Rattle.tox_network.specs.runs.EventualDelivery.{to_enter, coming, eventual_delivery, moves_left}
use Rattle.tox_network.specs.runs.Runs.{after_all, IsRun}
use Rattle.tox_network.specs.Rings.{sent_in, given_in}
use Rattle.tox_network.proofs.Coming.{IsShaped}
use Rattle.tox_network.proofs.Kept.{keeps_stages, keeps_shape, keeps_eventual_delivery, enters, leaves, one_less}

-- a step that led on
pub went_on : {A B : Type 0} (f : A → Option B) (o : Option A) (y : B) → option_and_then f o ≡ Some y → (x : A) × (o ≡ Some x) × (f x ≡ Some y)
went_on f None y h = absurd (none-some y h)
went_on f (Some x) y h = (x, refl, h)

-- what each move keeps holds at the end of a run
pub run_keeps : (cap : ℕ) (P : NetworkState → Type 0) → ((n t : NetworkState) (move : Move) → after cap n move ≡ Some t → P n → P t)
    → (n t : NetworkState) (moves : List Move) → P n → IsRun cap n moves t → P t
run_keeps cap P step n t [] p h = subst P (same_Some _ _ h) p
run_keeps cap P step n t (move ∷ moves) p h =
    let m = went_on (after_all cap moves) (after cap n move) t h in
    run_keeps cap P step m.0 t moves (step n m.0 move m.1 p) m.2

pub run_shape : (cap : ℕ) (n t : NetworkState) (moves : List Move) → IsShaped n → IsRun cap n moves t → IsShaped t
run_shape cap n t moves shaped h = run_keeps cap IsShaped (λ u v move g p. keeps_shape cap u v move p g) n t moves shaped h

pub run_stages : (cap : ℕ) (n t : NetworkState) (moves : List Move) → IsRun cap n moves t → length t.stages ≡ length n.stages
run_stages cap n t moves h =
    run_keeps cap (λ u. length u.stages ≡ length n.stages) (λ u v move g p. keeps_stages cap u v move g ∙ p) n t moves refl h

-- the eventual delivery is the same in a whole run
pub run_eventual_delivery : (cap : ℕ) (n t : NetworkState) (moves : List Move) → IsShaped n → IsRun cap n moves t → eventual_delivery t ≡ eventual_delivery n
run_eventual_delivery cap n t moves shaped h =
    let P : NetworkState → Type 0 = λ u. IsShaped u × (eventual_delivery u ≡ eventual_delivery n) in
    (run_keeps cap P (λ u v move g p. (keeps_shape cap u v move p.0 g, keeps_eventual_delivery cap u v move p.0 g ∙ p.1)) n t moves (shaped, refl) h).1

-- the moves made and the moves still to make are together the same
pub run_moves : (cap : ℕ) (n t : NetworkState) (moves : List Move) → IsShaped n → IsRun cap n moves t → length moves + moves_left t ≡ moves_left n
run_moves cap n t [] shaped h = let e : moves_left t ≡ moves_left n = ap moves_left (sym (same_Some _ _ h)) in omega arith
run_moves cap n t (move ∷ moves) shaped h =
    let m = went_on (after_all cap moves) (after cap n move) t h in
    let e : length moves + moves_left t ≡ moves_left m.0 = run_moves cap m.0 t moves (keeps_shape cap n m.0 move shaped m.1) m.2 in
    let f : moves_left n ≡ moves_left m.0 + 1 = one_less cap n m.0 move shaped m.1 in
    omega arith

-- what will be given to a queue is what the run gives to it, and what will be given to it after that
pub run_sent : (cap : ℕ) (n t : NetworkState) (moves : List Move) → IsShaped n → IsRun cap n moves t → (k : ℕ) → k ≤ length n.stages
    → to_enter n k ≡ sent_in cap moves n k ++ to_enter t k
run_sent cap n t [] shaped h k l = ap (λ u. to_enter u k) (same_Some _ _ h)
run_sent cap n t (move ∷ moves) shaped h k l =
    let m = went_on (after_all cap moves) (after cap n move) t h in
    let within : k ≤ length m.0.stages = let e = keeps_stages cap n m.0 move m.1 in omega arith in
    enters cap n m.0 move shaped m.1 k l
    ∙ ap (λ items. entering n move k ++ items) (run_sent cap m.0 t moves (keeps_shape cap n m.0 move shaped m.1) m.2 k within)
    ∙ sym (append_assoc (entering n move k) (sent_in cap moves m.0 k) (to_enter t k))
    ∙ ap (λ o. (entering n move k ++ option_map_or (λ u. sent_in cap moves u k) o []) ++ to_enter t k) (sym m.1)

-- what is to come to a queue is what leaves it in the run, and what is to come to it after that
pub run_given : (cap : ℕ) (n t : NetworkState) (moves : List Move) → IsShaped n → IsRun cap n moves t → (k : ℕ) → k ≤ length n.stages
    → coming n k ≡ given_in cap moves n k ++ coming t k
run_given cap n t [] shaped h k l = ap (λ u. coming u k) (same_Some _ _ h)
run_given cap n t (move ∷ moves) shaped h k l =
    let m = went_on (after_all cap moves) (after cap n move) t h in
    let within : k ≤ length m.0.stages = let e = keeps_stages cap n m.0 move m.1 in omega arith in
    leaves cap n m.0 move shaped m.1 k l
    ∙ ap (λ items. leaving n move k ++ items) (run_given cap m.0 t moves (keeps_shape cap n m.0 move shaped m.1) m.2 k within)
    ∙ sym (append_assoc (leaving n move k) (given_in cap moves m.0 k) (coming t k))
    ∙ ap (λ o. (leaving n move k ++ option_map_or (λ u. given_in cap moves u k) o []) ++ coming t k) (sym m.1)
