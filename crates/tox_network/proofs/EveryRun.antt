-- The laws of every run from the start, whatever the room of its queues and the order of its moves.
use Rattle.std.proofs.Common.{ℕ, zero, suc, ◌+◌, ◌*◌, ◌≤◌, ◌≡◌, List, [], ◌∷◌, ◌++◌, Some, length, take, sym, ◌∙◌, ap, subst, arith}
use Rattle.std.specs.List.{slice_get}
use Rattle.std.proofs.lemmas.List.{append-nil, take_all}
use Rattle.std.proofs.lemmas.Option.{none-some, same_Some}
use Rattle.tox_time.specs.declared.streams.item.Item.{Item}
use Rattle.tox_time.specs.streams.Stream.{IsPrefix, IsStream, arrived}
use Rattle.tox_defs.specs.chain.Chain.{Toxics, IsChain}
use Rattle.tox_defs.specs.Flow.{reactions_of}
use Rattle.tox_defs.specs.stage.Reaction.{Reaction, flow, flow_through}
use Rattle.tox_network.specs.declared.moves.Move.{Move}
use Rattle.tox_network.specs.NetworkState.{NetworkState, start, queue}
use Rattle.tox_network.specs.runs.EventualDelivery.{coming, eventual_delivery, moves_left, IsEmpty}
use Rattle.tox_network.specs.runs.Runs.{IsRun, IsAtRest, RestingRun}
use Rattle.tox_network.specs.Rings.{Ring, PassOn, sent_in, given_in, IsRunOf}
use Rattle.tox_network.specs.runs.RunLaws.{HasRunLaws}
use Rattle.tox_network.proofs.Streams.{few_in_front}
use Rattle.tox_network.proofs.Kept.{HasRoomKept, keeps_room}
use Rattle.tox_network.proofs.AlongRuns.{run_keeps, run_shape, run_eventual_delivery, run_moves, run_sent, run_given}
use Rattle.tox_network.proofs.Starting.{start_queue, start_stages, start_shaped, start_enters, start_coming, start_eventual_delivery, start_moves}
use Rattle.tox_network.proofs.Resting.{rest_empty, empty_eventual_delivery, empty_moves_left, empty_coming, empty_to_enter, comes_to_rest}

-- the eventual delivery is the flow
pub every_eventual_delivery : (cap : ℕ) (reactions : List Reaction) (arrivals : List Item) (moves : List Move) (n : NetworkState)
    → IsRun cap (start reactions arrivals) moves n → eventual_delivery n ≡ flow_through reactions arrivals
every_eventual_delivery cap reactions arrivals moves n run =
    run_eventual_delivery cap (start reactions arrivals) n moves (start_shaped reactions arrivals) run ∙ start_eventual_delivery reactions arrivals

-- what is delivered is a prefix of it
pub every_prefix : (cap : ℕ) (reactions : List Reaction) (arrivals : List Item) (moves : List Move) (n : NetworkState)
    → IsRun cap (start reactions arrivals) moves n → IsPrefix n.delivered (flow_through reactions arrivals)
every_prefix cap reactions arrivals moves n run = (coming n (length n.stages), every_eventual_delivery cap reactions arrivals moves n run)

-- at rest nothing waits
pub every_rest_empty : (cap : ℕ) (reactions : List Reaction) (arrivals : List Item) (moves : List Move) (n : NetworkState) → 1 ≤ cap
    → IsRun cap (start reactions arrivals) moves n → IsAtRest cap n → IsEmpty n
every_rest_empty cap reactions arrivals moves n room run rest =
    rest_empty cap n room (run_shape cap (start reactions arrivals) n moves (start_shaped reactions arrivals) run) rest

-- at rest the whole flow is delivered
pub every_rest_delivers : (cap : ℕ) (reactions : List Reaction) (arrivals : List Item) (moves : List Move) (n : NetworkState) → 1 ≤ cap
    → IsRun cap (start reactions arrivals) moves n → IsAtRest cap n → n.delivered ≡ flow_through reactions arrivals
every_rest_delivers cap reactions arrivals moves n room run rest =
    sym (empty_eventual_delivery n (every_rest_empty cap reactions arrivals moves n room run rest)) ∙ every_eventual_delivery cap reactions arrivals moves n run

-- at rest no move is left of those of the start
pub every_rest_moves : (cap : ℕ) (reactions : List Reaction) (arrivals : List Item) (moves : List Move) (n : NetworkState) → 1 ≤ cap
    → IsRun cap (start reactions arrivals) moves n → IsAtRest cap n → length moves ≡ moves_left (start reactions arrivals)
every_rest_moves cap reactions arrivals moves n room run rest =
    let none : moves_left n ≡ 0 = empty_moves_left n (every_rest_empty cap reactions arrivals moves n room run rest) in
    let both : length moves + moves_left n ≡ moves_left (start reactions arrivals) =
    run_moves cap (start reactions arrivals) n moves (start_shaped reactions arrivals) run in
    omega arith

-- each queue holds at most as many items as it has room for
every_queue_within : (cap : ℕ) (reactions : List Reaction) (arrivals : List Item) (moves : List Move) (n : NetworkState)
    → IsRun cap (start reactions arrivals) moves n → (k : ℕ) → length (queue n k) ≤ cap
every_queue_within cap reactions arrivals moves n run =
    run_keeps cap (HasRoomKept cap) (λ u v move made kept. keeps_room cap u v move made kept) (start reactions arrivals) n moves
    (λ k. let none : length (queue (start reactions arrivals) k) ≡ 0 = ap length (start_queue reactions arrivals k) in omega arith) run

-- where no flow has more than so many items, a run has few moves
pub every_run_short : (cap : ℕ) (reactions : List Reaction) (arrivals : List Item) (moves : List Move) (n : NetworkState) (most : ℕ)
    → ((k : ℕ) → k ≤ length reactions → length (flow_through (take k reactions) arrivals) ≤ most) → IsRun cap (start reactions arrivals) moves n
    → length moves ≤ (2 * length reactions + 2) * most
every_run_short cap reactions arrivals moves n most few run =
    let both : length moves + moves_left n ≡ moves_left (start reactions arrivals) =
    run_moves cap (start reactions arrivals) n moves (start_shaped reactions arrivals) run in
    let bound : moves_left (start reactions arrivals) ≤ (2 * length reactions + 2) * most = start_moves reactions arrivals most few in
    omega arith

-- some run comes to rest
pub some_run_rests : (cap : ℕ) (reactions : List Reaction) (arrivals : List Item) → 1 ≤ cap → RestingRun cap (start reactions arrivals)
some_run_rests cap reactions arrivals room = comes_to_rest cap (start reactions arrivals) room (start_shaped reactions arrivals)

-- Rings

-- ring k was sent the flow through the first k reactions, and gave it
ring_sent : (reactions : List Reaction) (items : List Item) (rings : List Ring) (k : ℕ) (ring : Ring) → PassOn reactions items rings
    → slice_get rings k ≡ Some ring
    → (k ≤ length reactions) × (ring.sent ≡ flow_through (take k reactions) items) × (ring.given ≡ ring.sent)
ring_sent reactions items [] k ring passed at = absurd passed
ring_sent [] items (first ∷ rings) zero ring passed at =
    let same : first ≡ ring = same_Some _ _ at in
    (omega arith, sym (ap (λ (one : Ring). one.sent) same) ∙ passed.0, subst (λ (one : Ring). one.given ≡ one.sent) same passed.1)
ring_sent [] items (first ∷ rings) (suc k) ring passed at = absurd (none-some ring (ap (λ others. slice_get others k) (sym passed.2) ∙ at))
ring_sent (reaction ∷ reactions) items (first ∷ rings) zero ring passed at =
    let same : first ≡ ring = same_Some _ _ at in
    (omega arith, sym (ap (λ (one : Ring). one.sent) same) ∙ passed.0, subst (λ (one : Ring). one.given ≡ one.sent) same passed.1)
ring_sent (reaction ∷ reactions) items (first ∷ rings) (suc k) ring passed at =
    let later = ring_sent reactions (flow reaction first.given) rings k ring passed.2 at in
    (omega (arith, later.0), later.1 ∙ ap (λ given. flow_through (take k reactions) (flow reaction given)) (passed.1 ∙ passed.0), later.2)

-- at rest each queue was sent the flow through the stages before it
rest_sent : (cap : ℕ) (reactions : List Reaction) (items : List Item) (resting : RestingRun cap (start reactions items)) (k : ℕ) → 1 ≤ cap
    → k ≤ length reactions
    → sent_in cap resting.moves (start reactions items) k ≡ flow_through (take k reactions) items
rest_sent cap reactions items resting k room l =
    let empty = every_rest_empty cap reactions items resting.moves resting.state room resting.run resting.rest in
    let within : k ≤ length (start reactions items).stages = let e = start_stages reactions items in omega arith in
    sym (append-nil (sent_in cap resting.moves (start reactions items) k))
    ∙ ap (λ rest. sent_in cap resting.moves (start reactions items) k ++ rest) (sym (empty_to_enter resting.state empty k))
    ∙ sym (run_sent cap (start reactions items) resting.state resting.moves (start_shaped reactions items) resting.run k within)
    ∙ start_enters reactions items k l

-- and gave it
rest_given : (cap : ℕ) (reactions : List Reaction) (items : List Item) (resting : RestingRun cap (start reactions items)) (k : ℕ) → 1 ≤ cap
    → k ≤ length reactions
    → given_in cap resting.moves (start reactions items) k ≡ flow_through (take k reactions) items
rest_given cap reactions items resting k room l =
    let empty = every_rest_empty cap reactions items resting.moves resting.state room resting.run resting.rest in
    let within : k ≤ length (start reactions items).stages = let e = start_stages reactions items in omega arith in
    sym (append-nil (given_in cap resting.moves (start reactions items) k))
    ∙ ap (λ rest. given_in cap resting.moves (start reactions items) k ++ rest) (sym (empty_coming resting.state empty k))
    ∙ sym (run_given cap (start reactions items) resting.state resting.moves (start_shaped reactions items) resting.run k within)
    ∙ start_coming reactions items k l

-- rings between stages that passed all on are the queues of some run at rest
pub rings_run : (cap : ℕ) (reactions : List Reaction) (items : List Item) (rings : List Ring) → 1 ≤ cap → PassOn reactions items rings
    → IsRunOf cap reactions items rings
rings_run cap reactions items rings room passed =
    let resting = some_run_rests cap reactions items room in
    record {
      resting = resting;
      sent = λ k ring at. let here = ring_sent reactions items rings k ring passed at in rest_sent cap reactions items resting k room here.0 ∙ sym here.1;
      given = λ k ring at. let here = ring_sent reactions items rings k ring passed at in rest_given cap reactions items resting k room here.0 ∙ sym here.1
          ∙ sym here.2;
      delivered = λ ring at.
          let here = ring_sent reactions items rings (length reactions) ring passed at in
          every_rest_delivers cap reactions items resting.moves resting.state room resting.run resting.rest
          ∙ ap (λ all. flow_through all items) (sym (take_all (length reactions) reactions (omega arith)))
          ∙ sym here.1 ∙ sym here.2;
    }

-- The chain's own

pub run_laws : (chain : Toxics) (words : List ℕ) (items : List Item) → IsChain chain → IsStream items → HasRunLaws chain words items
run_laws chain words items fits stream =
    let reactions = reactions_of chain words in
    record {
      eventual = λ cap moves n room run. every_eventual_delivery cap reactions items moves n run;
      prefix = λ cap moves n room run. every_prefix cap reactions items moves n run;
      room = λ cap moves n room run. every_queue_within cap reactions items moves n run;
      short = λ cap moves n room run. every_run_short cap reactions items moves n (arrived items + 1) (few_in_front chain words items fits stream) run;
      empty = λ cap moves n room run rest. every_rest_empty cap reactions items moves n room run rest;
      delivers = λ cap moves n room run rest. every_rest_delivers cap reactions items moves n room run rest;
      moves = λ cap moves n room run rest. every_rest_moves cap reactions items moves n room run rest;
      rests = λ cap room. some_run_rests cap reactions items room;
      rings = λ cap rings room passed. rings_run cap reactions items rings room passed;
    }
