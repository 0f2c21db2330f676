-- One turn more.
use Rattle.std.proofs.Common.{◌≡◌, ℕ, zero, suc, ◌+◌, List, [], ◌∷◌, ◌++◌, Option, Some, None, length, drop, Bor, arith, refl, sym, ◌∙◌, ap, subst}
use Rattle.std.specs.List.{slice_get}
use Rattle.std.specs.Option.{option_and_then, option_map, IsSomeAnd}
use Rattle.std.proofs.lemmas.Option.{same_Some}
use Rattle.std.proofs.lemmas.List.{length_push, drop-drop, nil_from_length}
use Rattle.std.specs.Slice.Iter.{iter_rest, iter_steps}
use Rattle.std.specs.declared.slice.Iter.{Iter}
use Rattle.tox_network.specs.declared.moves.Move.{Move}
use Rattle.tox_network.specs.declared.moves.Move.TheVariants.{Deliver}
use Rattle.tox_network.specs.NetworkState.{NetworkState}
use Rattle.tox_network.specs.Moves.{after}
use Rattle.tox_network.specs.runs.Runs.{after_all, IsRun}
use Rattle.tox_network.specs.NetworkView.{NetworkView, state_of, IsStep, HasChunkFirst}
use Rattle.tox_network.specs.runs.Settling.{turn, FollowsTurns, Settles, IsRefusedAt}
use Rattle.tox_network.proofs.AlongRuns.{went_on}

run_more : (cap : ℕ) (n u t : NetworkState) (moves : List Move) (move : Move) → IsRun cap n moves u → after cap u move ≡ Some t
    → IsRun cap n (moves ++ move ∷ []) t
run_more cap n u t [] move run made =
    ap (option_and_then (after_all cap [])) (subst (λ v. after cap v move ≡ Some t) (sym (same_Some _ _ run)) made)
run_more cap n u t (first ∷ moves) move run made =
    let on = went_on (after_all cap moves) (after cap n first) u run in
    ap (option_and_then (after_all cap (moves ++ move ∷ []))) on.1 ∙ run_more cap on.0 u t moves move on.2 made

next_of_rest : (listed : List Move) (k : ℕ) → slice_get (drop 1 listed) k ≡ slice_get listed (suc k)
next_of_rest [] k = refl
next_of_rest (move ∷ moves) k = refl

first_of_rest : (listed : List Move) (k : ℕ) → slice_get (drop k listed) 0 ≡ slice_get listed k
first_of_rest listed zero = refl
first_of_rest [] (suc k) = refl
first_of_rest (move ∷ moves) (suc k) = first_of_rest moves k

follows_more : (cap : ℕ) (listed made : List Move) (n u : NetworkState) (move : Move) → IsRun cap n made u → FollowsTurns cap listed made n
    → turn cap (slice_get listed (length made)) u ≡ Some move → FollowsTurns cap listed (made ++ move ∷ []) n
follows_more cap listed [] n u move run follows next = (ap (turn cap (slice_get listed 0)) (same_Some _ _ run) ∙ next, λ t made. tt)
follows_more cap listed (first ∷ made) n u move run follows next =
    let on = went_on (after_all cap made) (after cap n first) u run in
    let later : turn cap (slice_get (drop 1 listed) (length made)) u ≡ Some move = ap (λ one. turn cap one u) (next_of_rest listed (length made)) ∙ next in (
      follows.0,
      λ t led.
          let same : on.0 ≡ t = same_Some _ _ (sym on.1 ∙ led) in
          follows_more cap (drop 1 listed) made t u move (subst (λ v. IsRun cap v made u) same on.2) (follows.1 t led) later,
    )

-- the move of the turn that comes next
turn_at : (moves : List Move) (first mid : NetworkView) (rest : List Move) (s : Settles moves first mid) → rest ≡ drop (length s.made) moves → (move : Move)
    → turn mid.cap (slice_get rest 0) (state_of mid) ≡ Some move → turn first.cap (slice_get moves (length s.made)) (state_of mid) ≡ Some move
turn_at moves first mid rest s is move next =
    let listed : slice_get rest 0 ≡ slice_get moves (length s.made) = ap (λ all. slice_get all 0) is ∙ first_of_rest moves (length s.made) in
    ap (λ one. turn first.cap one (state_of mid)) (sym listed) ∙ ap (λ cap. turn cap (slice_get rest 0) (state_of mid)) (sym s.cap) ∙ next

-- a turn more, and a listed move less
pub settles_more : (moves : List Move) (first mid last : NetworkView) (rest : List Move) (s : Settles moves first mid) → rest ≡ drop (length s.made) moves
    → (move : Move) → turn mid.cap (slice_get rest 0) (state_of mid) ≡ Some move → IsStep move mid last
    → (t : Settles moves first last) × (drop 1 rest ≡ drop (length t.made) moves)
settles_more moves first mid last rest s is move next step =
    let here = turn_at moves first mid rest s is move next in
    let moved : after first.cap (state_of mid) move ≡ Some (state_of last) =
    subst (λ cap. after cap (state_of mid) move ≡ Some (state_of last)) s.cap step.moved in
    let long : length (s.made ++ move ∷ []) ≡ length s.made + 1 = length_push s.made move in
    let counted : last.steps ≡ mid.steps + 1 = step.counted in
    let before : mid.steps ≡ first.steps + length s.made = s.counted in (
      record {
        made = s.made ++ move ∷ [];
        run = run_more first.cap (state_of first) (state_of mid) (state_of last) s.made move s.run moved;
        rule = follows_more first.cap moves s.made (state_of first) (state_of mid) move s.run s.rule here;
        counted = omega arith;
        cap = step.cap ∙ s.cap;
        arrived = step.arrived ∙ s.arrived;
      },
      ap (drop 1) is ∙ drop-drop 1 (length s.made) moves ∙ ap (λ k. drop k moves) (sym long),
    )

-- the next item of a slice's iterator is the first that is left
pub next_listed : (s t : Iter Move) (next : Option (Bor Move)) → iter_steps s next t
    → (option_map (λ one. one.now) next ≡ slice_get (iter_rest s) 0) × (iter_rest t ≡ drop 1 (iter_rest s))
next_listed s t None taken =
    let none : iter_rest s ≡ [] = nil_from_length (iter_rest s) taken.0 in
    (ap (λ moves. slice_get moves 0) (sym none), ap iter_rest taken.1 ∙ none ∙ ap (drop 1) (sym none))
next_listed s t (Some move) taken = (ap (λ moves. slice_get moves 0) (sym taken), ap (drop 1) (sym taken))

-- memory that is refused leaves the moves made before
pub refused_at : (moves : List Move) (first mid last : NetworkView) (rest : List Move) (s : Settles moves first mid) → rest ≡ drop (length s.made) moves
    → last ≡ mid
    → turn mid.cap (slice_get rest 0) (state_of mid) ≡ Some Deliver → HasChunkFirst mid → IsRefusedAt moves first last
refused_at moves first mid last rest s is same next chunk =
    let here : IsRefusedAt moves first mid = record { settles = s; delivers = turn_at moves first mid rest s is Deliver next; chunk = chunk } in
    subst (IsRefusedAt moves first) (sym same) here

-- a value of which P holds
pub some_and : {X : Type 0} (o : Option X) (P : X → Type 0) → IsSomeAnd o P → (x : X) × (o ≡ Some x) × P x
some_and None P holds = absurd holds
some_and (Some x) P holds = (x, refl, holds)
