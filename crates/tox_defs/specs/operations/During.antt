-- Toxics that begin later or stop: outside their time, chunks pass whole, in order and uncounted.
use Rattle.std.specs.Prelude.{ℕ, zero, suc, ◌*◌, ◌||◌, Bool, false, [], ◌∷◌, nat_le, nat_lt, if◌then◌else◌}
use Rattle.tox_time.specs.declared.streams.item.Item.{Item}
use Rattle.tox_time.specs.declared.streams.item.Item.TheVariants.{Chunk}
use Rattle.tox_time.specs.streams.Stream.{latest_from}
use Rattle.tox_defs.specs.declared.operations.state.State.{State}
use Rattle.tox_defs.specs.toxics.Ordered.{in_order}
use Rattle.tox_defs.specs.stage.Reaction.{Answer, Reaction}

-- whether an item is a chunk that comes before so many milliseconds; with 0 none is
abbrev pub is_early : ℕ → Item → Bool
is_early zero item = false
is_early (suc millis) (Chunk span t) = nat_lt t (1000 * suc millis)
is_early (suc millis) item = false

-- whether an item is a chunk that comes at or past so many milliseconds; with 0 none is
abbrev pub is_late : ℕ → Item → Bool
is_late zero item = false
is_late (suc millis) (Chunk span t) = nat_le (1000 * suc millis) t
is_late (suc millis) item = false

-- whether an item is a chunk that comes before the one or past the other
abbrev pub is_outside : ℕ → ℕ → Item → Bool
is_outside from until item = is_early from item || is_late until item

-- the state after an item was given at an instant and not counted
abbrev pub with_previous : State → ℕ → State
with_previous state previous = record {
  previous = previous;
  chunks = state.chunks;
  pieces = state.pieces;
  passed = state.passed;
  done = state.done;
}

-- the item alone, in order; nothing is counted
abbrev pub uncounted_answer : State → Item → Answer
uncounted_answer state item = record {
  state = with_previous state (latest_from state.previous (in_order state.previous item ∷ []));
  given = in_order state.previous item ∷ [];
}

-- the reaction, but for chunks outside its time
abbrev pub during : ℕ → ℕ → Reaction → Reaction
during from until reaction state item =
    if is_outside from until item then uncounted_answer state item else reaction state item
