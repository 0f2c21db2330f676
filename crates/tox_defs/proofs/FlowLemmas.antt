-- Flows of every reaction: one item at a time, in two parts, and after a final.
use Rattle.std.proofs.Common.{◌≡◌, ℕ, Bool, true, false, List, [], ◌∷◌, ◌++◌, refl, ap, sym, ◌∙◌, append_assoc, if◌then◌else◌}
use Rattle.std.proofs.lemmas.List.{append-nil}
use Rattle.tox_time.specs.declared.streams.item.Item.{Item}
use Rattle.tox_defs.specs.declared.operations.state.State.{State}
use Rattle.tox_defs.specs.stage.Reaction.{Answer, Reaction, Giving, react, counted, state_after, flow, flow_from, state_from, flow_through}
use Rattle.tox_defs.specs.operations.Look.{Continues}

-- states that count the same are the same
pub state_same : (previous chunks chunks' pieces pieces' passed passed' : ℕ) (done : Bool) → chunks ≡ chunks' → pieces ≡ pieces' → passed ≡ passed'
    → ◌≡◌ {A = State} (record { previous = previous; chunks = chunks; pieces = pieces; passed = passed; done = done })
    (record { previous = previous; chunks = chunks'; pieces = pieces'; passed = passed'; done = done })
state_same previous chunks chunks' pieces pieces' passed passed' done same_chunks same_pieces same_passed =
    let make : ℕ → ℕ → ℕ → State = λ k n b. record { previous = previous; chunks = k; pieces = n; passed = b; done = done } in
    ap (λ k. make k pieces passed) same_chunks ∙ ap (λ n. make chunks' n passed) same_pieces ∙ ap (make chunks' pieces') same_passed

-- who is done gives nothing and stays as it is
pub react-done : (reaction : Reaction) (state : State) (item : Item) → state.done ≡ true → react reaction state item ≡ record { state = state; given = [] }
react-done reaction state item done =
    let nothing : Answer = record { state = state; given = [] } in ap (λ b. if b then nothing else reaction state item) done

-- who is not done reacts
pub react-running : (reaction : Reaction) (state : State) (item : Item) → state.done ≡ false → react reaction state item ≡ reaction state item
react-running reaction state item running =
    let nothing : Answer = record { state = state; given = [] } in ap (λ b. if b then nothing else reaction state item) running

pub flow_from-done : (reaction : Reaction) (state : State) (items : List Item) → state.done ≡ true → flow_from reaction state items ≡ []
flow_from-done reaction state [] done = refl
flow_from-done reaction state (item ∷ items) done =
    ap (λ answer. answer.given ++ flow_from reaction answer.state items) (react-done reaction state item done) ∙ flow_from-done reaction state items done

pub state_from-done : (reaction : Reaction) (state : State) (items : List Item) → state.done ≡ true → state_from reaction state items ≡ state
state_from-done reaction state [] done = refl
state_from-done reaction state (item ∷ items) done =
    ap (λ answer. state_from reaction answer.state items) (react-done reaction state item done) ∙ state_from-done reaction state items done

pub flow_from-append : (reaction : Reaction) (state : State) (xs ys : List Item)
    → flow_from reaction state (xs ++ ys) ≡ flow_from reaction state xs ++ flow_from reaction (state_from reaction state xs) ys
flow_from-append reaction state [] ys = refl
flow_from-append reaction state (x ∷ xs) ys =
    ap (λ later. (react reaction state x).given ++ later) (flow_from-append reaction (react reaction state x).state xs ys)
    ∙ sym (append_assoc (react reaction state x).given _ _)

pub state_from-append : (reaction : Reaction) (state : State) (xs ys : List Item)
    → state_from reaction state (xs ++ ys) ≡ state_from reaction (state_from reaction state xs) ys
state_from-append reaction state [] ys = refl
state_from-append reaction state (x ∷ xs) ys = state_from-append reaction (react reaction state x).state xs ys

pub flow_through-append : (first others : List Reaction) (items : List Item)
    → flow_through (first ++ others) items ≡ flow_through others (flow_through first items)
flow_through-append [] others items = refl
flow_through-append (reaction ∷ first) others items = flow_through-append first others (flow reaction items)

-- what is given for the last item
pub flow_from-last : (reaction : Reaction) (state : State) (item : Item) (items : List Item) → items ≡ []
    → flow_from reaction state (item ∷ items) ≡ (react reaction state item).given
flow_from-last reaction state item items none =
    ap (λ items. flow_from reaction state (item ∷ items)) none ∙ append-nil (react reaction state item).given

-- what a giving makes of an item comes first
pub Continues-counted : (giving : Giving) (state : State) (item : Item) (items given : List Item) → state.done ≡ false → giving state item ≡ given
    → Continues (counted giving) state (item ∷ items) given (state_after state item given) items
Continues-counted giving state item items given running is = record {
  gives = ap (λ answer. answer.given ++ flow_from (counted giving) answer.state items) (answers running is);
  leaves = ap (λ answer. state_from (counted giving) answer.state items) (answers running is);
}
  where
    answers : state.done ≡ false → giving state item ≡ given → react (counted giving) state item
        ≡ record { state = state_after state item given; given = given }
    answers running is = react-running (counted giving) state item running ∙ ap (λ given. record { state = state_after state item given; given = given }) is
