-- A toxic at work, as a function on whole lists: its state, its reaction to an item, and its flow.
use Rattle.std.specs.Prelude.{ℕ, ◌+◌, true, false, List, [], ◌∷◌, ◌++◌, if◌then◌else◌}
use Rattle.tox_time.specs.declared.streams.item.Item.{Item}
use Rattle.tox_time.specs.declared.streams.item.Item.TheVariants.{Chunk, Closed, Reset, Quiet}
use Rattle.tox_time.specs.declared.streams.slice.Slice.{Slice}
use Rattle.tox_time.specs.declared.streams.ending.Ending.{Ending}
use Rattle.tox_time.specs.streams.Stream.{span_len, latest_from, arrived, has_final}
use Rattle.tox_time.specs.streams.Table.{final_of}
use Rattle.tox_defs.specs.declared.operations.state.State.{State}

-- nothing was taken or given yet
abbrev pub first_state : State
first_state = record { previous = 0; chunks = 0; pieces = 0; passed = 0; done = false }

-- how many chunks a list has
abbrev pub chunk_count : List Item → ℕ
chunk_count [] = 0
chunk_count (Chunk span t ∷ items) = 1 + chunk_count items
chunk_count (Closed t ∷ items) = chunk_count items
chunk_count (Reset t ∷ items) = chunk_count items
chunk_count (Quiet ∷ items) = chunk_count items

-- the state after an item was taken and a list given
abbrev pub state_after : State → Item → List Item → State
state_after state item given = record {
  previous = latest_from state.previous given;
  chunks = state.chunks + chunk_count (item ∷ []);
  pieces = state.pieces + chunk_count given;
  passed = state.passed + arrived given;
  done = has_final given;
}

-- the state after one more piece was given
abbrev pub with_piece : State → Slice → State
with_piece state piece = record {
  previous = piece.instant;
  chunks = state.chunks;
  pieces = state.pieces + 1;
  passed = state.passed + span_len piece.span;
  done = state.done;
}

-- the state after one more chunk was taken
abbrev pub with_chunk : State → State
with_chunk state = record {
  previous = state.previous;
  chunks = state.chunks + 1;
  pieces = state.pieces;
  passed = state.passed;
  done = state.done;
}

-- the state after an ending was given
abbrev pub with_ending : State → Ending → State
with_ending state ending = record {
  previous = latest_from state.previous (final_of ending ∷ []);
  chunks = state.chunks;
  pieces = state.pieces;
  passed = state.passed;
  done = true;
}

-- what an item makes: a new state, and the whole list of items given
pub record Answer : Type 0 where
  pub state : State
  pub given : List Item

-- what a state and an item make
abbrev pub Reaction : Type 0
Reaction = State → Item → Answer

-- what is given, by a state and an item
abbrev pub Giving : Type 0
Giving = State → Item → List Item

-- the reaction that gives this, and counts what was taken and given
abbrev pub counted : Giving → Reaction
counted giving state item =
    record { state = state_after state item (giving state item); given = giving state item }

-- who has given a final takes items and gives none, and its state stays
abbrev pub react : Reaction → Reaction
react reaction state item =
    if state.done then record { state = state; given = [] } else reaction state item

-- what is given for a list, from a state on
abbrev pub flow_from : Reaction → State → List Item → List Item
flow_from reaction state [] = []
flow_from reaction state (item ∷ items) =
    (react reaction state item).given ++ flow_from reaction (react reaction state item).state items

-- the state that a list leaves
abbrev pub state_from : Reaction → State → List Item → State
state_from reaction state [] = state
state_from reaction state (item ∷ items) =
    state_from reaction (react reaction state item).state items

-- the flow of a list: what is given for it, from the first state on
abbrev pub flow : Reaction → List Item → List Item
flow reaction items = flow_from reaction first_state items

-- the flow through one reaction after the other
abbrev pub flow_through : List Reaction → List Item → List Item
flow_through [] items = items
flow_through (reaction ∷ reactions) items = flow_through reactions (flow reaction items)
