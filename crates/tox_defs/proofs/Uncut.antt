-- A look that found all that is given for a rest which it doesn't cut.
use Rattle.std.proofs.Common.{◌≡◌, false, List, [], ◌∷◌, ◌++◌, refl, sym, arith, eq-eqb, subst}
use Rattle.std.proofs.lemmas.Bool.{le-ltb}
use Rattle.tox_time.specs.declared.streams.ending.Ending.{Ending}
use Rattle.tox_time.specs.declared.streams.ending.Ending.TheVariants.{StillOpen, Closed, Reset}
use Rattle.tox_time.specs.declared.streams.item.Item.{Item}
use Rattle.tox_time.specs.declared.streams.slice.Slice.{Slice}
use Rattle.tox_time.specs.streams.Table.{final_of}
use Rattle.tox_defs.specs.declared.operations.look.Look.{Look}
use Rattle.tox_defs.specs.declared.operations.look.Look.TheVariants.{Piece, LastPiece, Ended, Uncounted}
use Rattle.tox_defs.specs.declared.operations.state.State.{State}
use Rattle.tox_defs.specs.operations.Look.{Finds, FindsAll, as_chunk, after_piece_of, rest_of, Continues}
use Rattle.tox_defs.specs.stage.Reaction.{Giving, counted, state_after, with_piece, with_chunk, with_ending}
use Rattle.tox_defs.proofs.Cutting.{cut_ends}
use Rattle.tox_defs.proofs.FlowLemmas.{state_same, Continues-counted}

-- the state after the ending alone
state_at_end : (state : State) (rest : Slice) (ending : Ending) → state_after state (as_chunk rest) (final_of ending ∷ [])
    ≡ with_ending (with_chunk state) ending
state_at_end state rest StillOpen = state_same _ _ _ _ _ _ _ _ (omega arith) (omega arith) (omega arith)
state_at_end state rest (Closed t) = state_same _ _ _ _ _ _ _ _ (omega arith) (omega arith) (omega arith)
state_at_end state rest (Reset t) = state_same _ _ _ _ _ _ _ _ (omega arith) (omega arith) (omega arith)

-- the state after a last piece and the ending
state_at_last : (state : State) (rest piece : Slice) (ending : Ending) → state_after state (as_chunk rest) (as_chunk piece ∷ final_of ending ∷ [])
    ≡ with_ending (with_chunk (with_piece state piece)) ending
state_at_last state rest piece StillOpen = state_same _ _ _ _ _ _ _ _ (omega arith) (omega arith) (omega arith)
state_at_last state rest piece (Closed t) = state_same _ _ _ _ _ _ _ _ (omega arith) (omega arith) (omega arith)
state_at_last state rest piece (Reset t) = state_same _ _ _ _ _ _ _ _ (omega arith) (omega arith) (omega arith)

-- what comes for an item, with another name of the state after it
in_state : (giving : Giving) (state : State) (rest : Slice) (items given : List Item) (later : State) → state_after state (as_chunk rest) given ≡ later
    → Continues (counted giving) state (as_chunk rest ∷ items) given (state_after state (as_chunk rest) given) items
    → Continues (counted giving) state (as_chunk rest ∷ items) given later items
in_state giving state rest items given later same here =
    subst (λ later. Continues (counted giving) state (as_chunk rest ∷ items) given later items) same here

whole_rest : (giving : Giving) (state : State) (rest : Slice) (items : List Item) → state.done ≡ false → giving state (as_chunk rest) ≡ as_chunk rest ∷ []
    → Continues (counted giving) state (as_chunk rest ∷ items) (as_chunk rest ∷ []) (after_piece_of rest.span.stop state rest)
    (rest_of rest.span.stop rest.span.stop rest.instant ++ items)
whole_rest giving state rest items running only =
    rw (le-ltb rest.span.stop rest.span.stop (omega arith), eq-eqb rest.span.stop rest.span.stop refl) (cut_ends giving state rest rest items running only)

pub finds_all : (giving : Giving) (state : State) (rest : Slice) (look : Look) (items : List Item) → state.done ≡ false
    → FindsAll (giving state (as_chunk rest)) rest look
    → Finds (counted giving) state rest items look
finds_all giving state rest (Piece piece) items running found =
    subst (λ piece. Continues (counted giving) state (as_chunk rest ∷ items) (as_chunk piece ∷ []) (after_piece_of rest.span.stop state piece)
    (rest_of piece.span.stop rest.span.stop rest.instant ++ items)) (sym found.0)
    (whole_rest giving state rest items running found.1)
finds_all giving state rest (LastPiece piece ending) items running found =
    in_state giving state rest items (as_chunk piece ∷ final_of ending ∷ []) _ (state_at_last state rest piece ending)
    (Continues-counted giving state (as_chunk rest) items (as_chunk piece ∷ final_of ending ∷ []) running found)
finds_all giving state rest (Ended ending) items running found =
    in_state giving state rest items (final_of ending ∷ []) _ (state_at_end state rest ending)
    (Continues-counted giving state (as_chunk rest) items (final_of ending ∷ []) running found)
finds_all giving state rest (Uncounted piece) items running found = absurd found
