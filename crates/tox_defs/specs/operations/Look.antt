-- What a look at the rest of a chunk finds, and what is then still to come.
use Rattle.std.specs.Prelude.{◌≡◌, ℕ, ◌==◌, ◌<◌, ◌≤◌, nat_lt, if◌then◌else◌, List, [], ◌∷◌, ◌++◌}
use Rattle.tox_time.specs.declared.streams.slice.Slice.{Slice}
use Rattle.tox_time.specs.declared.streams.item.Item.{Item}
use Rattle.tox_time.specs.declared.streams.item.Item.TheVariants.{Chunk}
use Rattle.tox_time.specs.streams.Table.{final_of}
use Rattle.tox_defs.specs.declared.operations.state.State.{State}
use Rattle.tox_defs.specs.declared.operations.look.Look.{Look}
use Rattle.tox_defs.specs.declared.operations.look.Look.TheVariants.{Piece, LastPiece, Ended, Uncounted}
use Rattle.tox_defs.specs.stage.Reaction.{Reaction, flow_from, state_from, with_piece, with_chunk, with_ending}
use Rattle.tox_defs.specs.operations.During.{with_previous}

-- a slice as a chunk
abbrev pub as_chunk : Slice → Item
as_chunk slice = Chunk slice.span slice.instant

-- the unread rest of a chunk that stops at `stop`, where the reader stands at `start`
abbrev pub rest_of : ℕ → ℕ → ℕ → List Item
rest_of start stop instant =
    if nat_lt start stop then Chunk (record { start = start; stop = stop }) instant ∷ [] else []

-- what comes for these items is `given`, and then what comes for the later items from the later state
pub record Continues (reaction : Reaction) (state : State) (items : List Item) (given : List Item)
    (later_state : State) (later_items : List Item) : Type 0 where
  pub gives : flow_from reaction state items ≡ given ++ flow_from reaction later_state later_items
  pub leaves : state_from reaction state items ≡ state_from reaction later_state later_items

-- the state after a piece of a rest that stops at `stop`: the chunk counts with its last piece
abbrev pub after_piece_of : ℕ → State → Slice → State
after_piece_of stop state piece =
    if piece.span.stop == stop then with_chunk (with_piece state piece) else with_piece state piece

-- the look found what comes first for the rest, and items behind it
abbrev pub Finds : Reaction → State → Slice → List Item → Look → Type 0
Finds reaction state rest items (Piece piece) =
    Continues reaction state (as_chunk rest ∷ items) (as_chunk piece ∷ [])
    (after_piece_of rest.span.stop state piece)
    (rest_of piece.span.stop rest.span.stop rest.instant ++ items)
Finds reaction state rest items (LastPiece piece ending) =
    Continues reaction state (as_chunk rest ∷ items) (as_chunk piece ∷ final_of ending ∷ [])
    (with_ending (with_chunk (with_piece state piece)) ending) items
Finds reaction state rest items (Ended ending) =
    Continues reaction state (as_chunk rest ∷ items) (final_of ending ∷ [])
    (with_ending (with_chunk state) ending) items
Finds reaction state rest items (Uncounted piece) =
    Continues reaction state (as_chunk rest ∷ items) (as_chunk piece ∷ [])
    (with_previous state piece.instant) items

-- the look found all that is given for the rest, and cut no more from it than an ending does
abbrev pub FindsAll : List Item → Slice → Look → Type 0
FindsAll given rest (Piece piece) = (piece ≡ rest) × (given ≡ as_chunk rest ∷ [])
FindsAll given rest (LastPiece piece ending) = given ≡ as_chunk piece ∷ final_of ending ∷ []
FindsAll given rest (Ended ending) = given ≡ final_of ending ∷ []
FindsAll given rest (Uncounted piece) = ⊥

-- the piece begins where the rest does, isn't empty and lies in the rest
pub record IsFront (rest piece : Slice) : Type 0 where
  pub begins : piece.span.start ≡ rest.span.start
  pub some : piece.span.start < piece.span.stop
  pub within : piece.span.stop ≤ rest.span.stop

-- the found piece, if any, is a prefix of the rest, and all of it where it is late
abbrev pub IsFrontOf : Slice → Look → Type 0
IsFrontOf rest (Piece piece) = IsFront rest piece
IsFrontOf rest (LastPiece piece ending) = IsFront rest piece
IsFrontOf rest (Ended ending) = Unit {0}
IsFrontOf rest (Uncounted piece) = piece.span ≡ rest.span
