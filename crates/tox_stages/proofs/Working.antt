-- What a worker keeps from item to item.
use Rattle.std.proofs.Common.{◌≡◌, ℕ, ◌^◌, ◌≤◌, true, false, List, [], ◌∷◌, ◌++◌, refl, sym, ◌∙◌, ap, subst}
use Rattle.std.proofs.lemmas.List.{append-nil}
use Rattle.tox_time.specs.declared.streams.item.Item.{Item}
use Rattle.tox_time.specs.streams.Stream.{is_final, has_final}
use Rattle.tox_time.specs.declared.streams.position.StreamPosition.{StreamPosition}
use Rattle.tox_defs.specs.declared.operations.state.State.{State}
use Rattle.tox_time.specs.streams.StreamPosition.{first_position, fits, position_after}
use Rattle.tox_defs.specs.stage.Reaction.{Answer, Reaction, first_state, react, flow, flow_from, state_from}
use Rattle.tox_words.specs.Draw.{DrawingView, draws_of}
use Rattle.tox_defs.specs.operations.Op.{op_reaction}
use Rattle.tox_defs.specs.stage.Stage.{Staged, reaction_of, taken}
use Rattle.tox_defs.proofs.FlowLemmas.{flow_from-append, state_from-append}
use Rattle.tox_stages.specs.Passing.{SendsFlow, BeginsStream}
use Rattle.tox_stages.proofs.Places.{place_behind, place_behind-last, ended_behind, has_final-last, whole_stream, misfit}
use Rattle.rtrb.specs.declared.producer.Producer.{Producer}
use Rattle.rtrb.specs.declared.consumer.Consumer.{Consumer}
use Rattle.rtrb.specs.Ring.{sent, received, SameProducer, SameConsumer}

flow_from-last : (reaction : Reaction) (state : State) (items : List Item) (item : Item)
    → flow_from reaction state (items ++ item ∷ []) ≡ flow_from reaction state items ++ (react reaction (state_from reaction state items) item).given
flow_from-last reaction state items item =
    flow_from-append reaction state items (item ∷ [])
    ∙ ap (λ last. flow_from reaction state items ++ last) (append-nil (react reaction (state_from reaction state items) item).given)

state_from-last : (reaction : Reaction) (state : State) (items : List Item) (item : Item)
    → state_from reaction state (items ++ item ∷ []) ≡ (react reaction (state_from reaction state items) item).state
state_from-last reaction state items item = state_from-append reaction state items (item ∷ [])

-- a stage that took all items so far, and whose flow was sent
pub record HasWorked (stage : Staged) (items given : List Item) (s : Staged) : Type 0 where
  pub same_op : s.op ≡ stage.op
  pub same_drawing : s.drawing ≡ stage.drawing
  pub idle : s.pending ≡ []
  pub unended : s.place.ended ≡ false
  pub place : s.place ≡ place_behind first_position items
  pub state : s.state ≡ state_from (reaction_of stage) first_state items
  pub flowed : given ≡ flow_from (reaction_of stage) first_state items

-- what the stage makes of one item more
reacts : (stage : Staged) (items given : List Item) (s : Staged) (item : Item) → HasWorked stage items given s
    → react (reaction_of s) s.state item ≡ react (reaction_of stage) (state_from (reaction_of stage) first_state items) item
reacts stage items given s item h =
    ap (λ op. react (op_reaction op (draws_of s.drawing)) s.state item) h.same_op
    ∙ ap (λ (drawing : DrawingView). react (op_reaction stage.op (draws_of drawing)) s.state item) h.same_drawing
    ∙ ap (λ state. react (reaction_of stage) state item) h.state

pub flowed_more : (stage : Staged) (items given : List Item) (s : Staged) (item : Item) (more : List Item) → HasWorked stage items given s
    → more ≡ given ++ (taken s item).pending
    → more ≡ flow_from (reaction_of stage) first_state (items ++ item ∷ [])
flowed_more stage items given s item more h is =
    is
    ∙ ap (λ front. front ++ (taken s item).pending) h.flowed
    ∙ ap (λ (answer : Answer). flow_from (reaction_of stage) first_state items ++ answer.given) (reacts stage items given s item h)
    ∙ sym (flow_from-last (reaction_of stage) first_state items item)

-- items without an end have no final
unended_items : (stage : Staged) (items given : List Item) (s : Staged) → HasWorked stage items given s → has_final items ≡ false
unended_items stage items given s h = sym (ended_behind first_position items refl) ∙ ap (λ (place : StreamPosition). place.ended) (sym h.place) ∙ h.unended

-- a chunk more
pub worked_on : (stage : Staged) (items given : List Item) (s : Staged) (item : Item) (t : Staged) (all more : List Item) → HasWorked stage items given s
    → is_final item ≡ false
    → t ≡ record (taken s item) { pending = [] } → all ≡ items ++ item ∷ [] → more ≡ given ++ (taken s item).pending → HasWorked stage all more t
worked_on stage items given s item t all more h chunk is received is_sent =
    let place : t.place ≡ place_behind first_position all =
    ap (λ (s : Staged). s.place) is ∙ ap (λ place. position_after place item) h.place ∙ sym (place_behind-last first_position items item)
    ∙ ap (place_behind first_position) (sym received) in
    record {
      same_op = ap (λ (s : Staged). s.op) is ∙ h.same_op;
      same_drawing = ap (λ (s : Staged). s.drawing) is ∙ h.same_drawing;
      idle = ap (λ (s : Staged). s.pending) is;
      unended = ap (λ (place : StreamPosition). place.ended) place ∙ ended_behind first_position all refl ∙ ap has_final received
          ∙ has_final-last items item (unended_items stage items given s h) ∙ chunk;
      place = place;
      state = ap (λ (s : Staged). s.state) is ∙ ap (λ (answer : Answer). answer.state) (reacts stage items given s item h)
          ∙ sym (state_from-last (reaction_of stage) first_state items item)
          ∙ ap (state_from (reaction_of stage) first_state) (sym received);
      flowed = flowed_more stage items given s item more h is_sent ∙ ap (flow_from (reaction_of stage) first_state) (sym received);
    }

-- a final: where the items begin a stream, they are all of it
pub worked_all : (stage : Staged) (items given : List Item) (s : Staged) (item : Item) (reaction : Reaction) (all more : List Item)
    → HasWorked stage items given s → is_final item ≡ true
    → reaction_of stage ≡ reaction → all ≡ items ++ item ∷ [] → more ≡ given ++ (taken s item).pending → SendsFlow reaction all more
worked_all stage items given s item reaction all more h final is received is_sent =
    let ended : has_final all ≡ true = ap has_final received ∙ has_final-last items item (unended_items stage items given s h) ∙ final in
    record {
      whole = whole_stream all ended;
      flowed = λ begins.
          flowed_more stage items given s item more h is_sent
          ∙ ap (flow (reaction_of stage)) (sym received)
          ∙ ap (λ one. flow one all) is;
    }

-- an item that doesn't go on: the items begin no stream
pub misfits : (stage : Staged) (items given : List Item) (s : Staged) (item : Item) (reaction : Reaction) (all more : List Item) → HasWorked stage items given s
    → fits s.place item ≡ false
    → all ≡ items ++ item ∷ [] → SendsFlow reaction all more
misfits stage items given s item reaction all more h wrong received =
    let none : BeginsStream all → ⊥ = λ begins. misfit items item (ap (λ place. fits place item) (sym h.place) ∙ wrong) (subst BeginsStream received begins) in
    record { whole = λ begins. absurd (none begins); flowed = λ begins. absurd (none begins) }

module _ {A P : Type 0} where
  -- all that was received was taken, in so many turns, and its flow was sent
  pub record IsWorking (consumer : Consumer Item A P) (producer : Producer Item A P) (stage : Staged) (c : Consumer Item A P) (p : Producer Item A P)
      (s : Staged) (nth : ℕ) : Type 0 where
    pub same_consumer : SameConsumer consumer c
    pub same_producer : SameProducer producer p
    pub worked : HasWorked stage (received c) (sent p) s
    pub counted : nth ≤ s.place.position
    pub bounded : s.place.position ≤ 2 ^ 40
