-- A cursor after a look: what it gave, and what is still to come from it.
use Rattle.std.proofs.Common.{◌≡◌, ℕ, ◌+◌, ◌-◌, ◌<◌, ◌≤◌, Bool, true, false, List, [], ◌∷◌, ◌++◌, None, Some, refl, ap, sym, ◌∙◌, arith, if◌then◌else◌}
use Rattle.std.specs.Prelude.{◌==◌}
use Rattle.std.proofs.lemmas.Bool.{le-ltb, lt-ltb}
use Rattle.std.proofs.lemmas.List.{append-nil}
use Rattle.tox_time.specs.declared.streams.slice.Slice.{Slice}
use Rattle.tox_time.specs.declared.streams.item.Item.{Item}
use Rattle.tox_time.specs.declared.streams.ending.Ending.{Ending}
use Rattle.tox_time.specs.streams.Table.{final_of}
use Rattle.tox_words.specs.Draw.{Draws}
use Rattle.tox_defs.specs.declared.operations.state.State.{State}
use Rattle.tox_defs.specs.declared.operations.op_cursor.OpCursor.{OpCursor}
use Rattle.tox_defs.specs.declared.operations.look.Look.TheVariants.{Piece, LastPiece, Ended, Uncounted}
use Rattle.tox_defs.specs.stage.Reaction.{flow_from, state_from, with_piece, with_chunk, with_ending}
use Rattle.tox_defs.specs.operations.Op.{op_reaction}
use Rattle.tox_defs.specs.operations.During.{with_previous}
use Rattle.tox_defs.specs.operations.Look.{as_chunk, rest_of, Finds, after_piece_of, IsFront}
use Rattle.tox_defs.specs.operations.OpCursor.{ending_or, ended_or, cursor_gives, cursor_leaves, IsSoundCursor, IsNextPiece, GivesOnlyEnding}
use Rattle.tox_defs.proofs.FlowLemmas.{flow_from-done}

-- nothing is left of a chunk that was read to its end
pub rest_of-read : (start stop instant : ℕ) → stop ≤ start → rest_of start stop instant ≡ []
rest_of-read start stop instant read = rw (le-ltb start stop read)

-- what is left of a chunk
pub rest_of-unread : (start stop instant : ℕ) → start < stop → rest_of start stop instant
    ≡ as_chunk (record { span = record { start = start; stop = stop }; instant = instant }) ∷ []
rest_of-unread start stop instant unread = rw (lt-ltb start stop unread)

pub cursor_gives-running : (draws : Draws) (start : ℕ) (cursor : OpCursor) (items : List Item) → cursor.ending ≡ None
    → cursor_gives draws start cursor items ≡ flow_from (op_reaction cursor.op draws) cursor.state (rest_of start cursor.stop cursor.instant ++ items)
cursor_gives-running draws start cursor items running = ap (λ ending. ending_or ending
    (flow_from (op_reaction cursor.op draws) cursor.state (rest_of start cursor.stop cursor.instant ++ items))) running

pub cursor_gives-ended : (draws : Draws) (start : ℕ) (cursor : OpCursor) (ending : Ending) (items : List Item) → cursor.ending ≡ Some ending
    → cursor_gives draws start cursor items ≡ final_of ending ∷ []
cursor_gives-ended draws start cursor ending items ended = ap (λ ending.
    ending_or ending (flow_from (op_reaction cursor.op draws) cursor.state (rest_of start cursor.stop cursor.instant ++ items))) ended

pub cursor_leaves-running : (draws : Draws) (start : ℕ) (cursor : OpCursor) → cursor.ending ≡ None
    → cursor_leaves draws start cursor ≡ state_from (op_reaction cursor.op draws) cursor.state (rest_of start cursor.stop cursor.instant)
cursor_leaves-running draws start cursor running = ap (λ ending. ended_or ending cursor.state
    (state_from (op_reaction cursor.op draws) cursor.state (rest_of start cursor.stop cursor.instant))) running

-- the unread bytes of a cursor's present chunk
abbrev pub rest_at : ℕ → OpCursor → Slice
rest_at start cursor = record { span = record { start = start; stop = cursor.stop }; instant = cursor.instant }

module _ (draws : Draws) (start : ℕ) (cursor : OpCursor) (running : cursor.ending ≡ None) (some : start < cursor.stop) where
  gives_now : (items : List Item) → cursor_gives draws start cursor items
      ≡ flow_from (op_reaction cursor.op draws) cursor.state (as_chunk (rest_at start cursor) ∷ items)
  gives_now items = cursor_gives-running draws start cursor items running
      ∙ ap (λ rest. flow_from (op_reaction cursor.op draws) cursor.state (rest ++ items)) (rest_of-unread start cursor.stop cursor.instant some)

  leaves_now : cursor_leaves draws start cursor ≡ state_from (op_reaction cursor.op draws) cursor.state (as_chunk (rest_at start cursor) ∷ [])
  leaves_now = cursor_leaves-running draws start cursor running
      ∙ ap (λ rest. state_from (op_reaction cursor.op draws) cursor.state rest) (rest_of-unread start cursor.stop cursor.instant some)

-- what a piece counts
counted_piece : (ends : Bool) (state : State) (piece : Slice) (start : ℕ) → state.chunks ≤ start → start < piece.span.stop
    → (if ends then with_chunk (with_piece state piece) else with_piece state piece).chunks ≤ piece.span.stop
counted_piece true state piece start counts some = omega (arith, counts, some)
counted_piece false state piece start counts some = omega (arith, counts, some)

same_pieces : (ends : Bool) (state : State) (piece : Slice) → (if ends then with_chunk (with_piece state piece) else with_piece state piece).pieces
    ≡ state.pieces + 1
same_pieces true state piece = refl
same_pieces false state piece = refl

same_passed : (ends : Bool) (state : State) (piece : Slice) → (if ends then with_chunk (with_piece state piece) else with_piece state piece).passed
    ≡ state.passed + (piece.span.stop - piece.span.start)
same_passed true state piece = refl
same_passed false state piece = refl

same_done : (ends : Bool) (state : State) (piece : Slice) → (if ends then with_chunk (with_piece state piece) else with_piece state piece).done ≡ state.done
same_done true state piece = refl
same_done false state piece = refl

-- a cursor whose look found a piece
pub cursor_at_piece : (draws : Draws) (start : ℕ) (cursor : OpCursor) (piece : Slice) → cursor.ending ≡ None → start < cursor.stop → IsSoundCursor start cursor
    → ((items : List Item) → Finds (op_reaction cursor.op draws) cursor.state (rest_at start cursor) items (Piece piece)) → IsFront (rest_at start cursor) piece
    → IsNextPiece draws start cursor (record {
      op = cursor.op;
      state = after_piece_of cursor.stop cursor.state piece;
      stop = cursor.stop;
      instant =
          cursor.instant;
      ending = cursor.ending;
    }) piece
cursor_at_piece draws start cursor piece running some sound finds front =
    let ends : Bool = piece.span.stop == cursor.stop in
    let past : start < piece.span.stop = omega (arith, front.begins, front.some) in
    let later : OpCursor = record {
      op = cursor.op;
      state = after_piece_of cursor.stop cursor.state piece;
      stop = cursor.stop;
      instant = cursor.instant;
      ending = cursor.ending;
    } in
    record {
      begins = front.begins;
      some = past;
      within = front.within;
      op = refl;
      stop = refl;
      instant = refl;
      sound = record {
        within = front.within;
        few = sound.few;
        chunks = counted_piece ends cursor.state piece start sound.chunks past;
        pieces = omega (arith, same_pieces ends cursor.state piece, sound.pieces, past);
        passed = omega (arith, same_passed ends cursor.state piece, sound.passed, front.begins, front.some);
        running = λ none. same_done ends cursor.state piece ∙ sound.running none;
        operation = sound.operation;
      };
      gives = λ items. gives_now draws start cursor running some items ∙ (finds items).gives
          ∙ ap (λ given. as_chunk piece ∷ given) (sym (cursor_gives-running draws piece.span.stop later items running));
      leaves = leaves_now draws start cursor running some ∙ (finds []).leaves
          ∙ ap (λ rest. state_from (op_reaction cursor.op draws) (after_piece_of cursor.stop cursor.state piece) rest)
          (append-nil (rest_of piece.span.stop cursor.stop cursor.instant))
          ∙ sym (cursor_leaves-running draws piece.span.stop later running);
    }

-- a cursor whose look found that the rest is late
pub cursor_at_uncounted : (draws : Draws) (start : ℕ) (cursor : OpCursor) (piece : Slice) → cursor.ending ≡ None → start < cursor.stop
    → IsSoundCursor start cursor
    → ((items : List Item) → Finds (op_reaction cursor.op draws) cursor.state (rest_at start cursor) items (Uncounted piece))
    → piece.span ≡ (rest_at start cursor).span
    → IsNextPiece draws start cursor (record {
      op = cursor.op;
      state = with_previous cursor.state piece.instant;
      stop = cursor.stop;
      instant = cursor.instant;
      ending = cursor.ending;
    }) piece
cursor_at_uncounted draws start cursor piece running some sound finds whole =
    let begins : piece.span.start ≡ start = ap (λ span. span.start) whole in
    let stops : piece.span.stop ≡ cursor.stop = ap (λ span. span.stop) whole in
    let later : OpCursor = record {
      op = cursor.op;
      state = with_previous cursor.state piece.instant;
      stop = cursor.stop;
      instant = cursor.instant;
      ending =
          cursor.ending;
    } in
    let nothing = rest_of-read piece.span.stop cursor.stop cursor.instant (omega (arith, stops)) in
    record {
      begins = begins;
      some = omega (arith, stops, some);
      within = omega (arith, stops);
      op = refl;
      stop = refl;
      instant = refl;
      sound = record {
        within = omega (arith, stops);
        few = sound.few;
        chunks = omega (arith, stops, some, sound.chunks);
        pieces = omega (arith, stops, some, sound.pieces);
        passed = omega (arith, stops, some, sound.passed);
        running = sound.running;
        operation = sound.operation;
      };
      gives = λ items. gives_now draws start cursor running some items ∙ (finds items).gives
          ∙ ap (λ given. as_chunk piece ∷ given) (sym (cursor_gives-running draws piece.span.stop later items running
          ∙ ap (λ rest. flow_from (op_reaction cursor.op draws) later.state (rest ++ items)) nothing));
      leaves = leaves_now draws start cursor running some ∙ (finds []).leaves
          ∙ sym (cursor_leaves-running draws piece.span.stop later running
          ∙ ap (λ rest. state_from (op_reaction cursor.op draws) later.state rest) nothing);
    }

-- a cursor whose look found its last piece
pub cursor_at_last_piece : (draws : Draws) (start : ℕ) (cursor : OpCursor) (piece : Slice) (ending : Ending) → cursor.ending ≡ None → start < cursor.stop
    → IsSoundCursor start cursor
    → ((items : List Item) → Finds (op_reaction cursor.op draws) cursor.state (rest_at start cursor) items (LastPiece piece ending))
    → IsFront (rest_at start cursor) piece
    → IsNextPiece draws start cursor (record {
      op = cursor.op;
      state = with_ending (with_chunk (with_piece cursor.state piece)) ending;
      stop = cursor.stop;
      instant = cursor.instant;
      ending = Some ending;
    }) piece
cursor_at_last_piece draws start cursor piece ending running some sound finds front =
    let past : start < piece.span.stop = omega (arith, front.begins, front.some) in
    let done : State = with_ending (with_chunk (with_piece cursor.state piece)) ending in
    record {
      begins = front.begins;
      some = past;
      within = front.within;
      op = refl;
      stop = refl;
      instant = refl;
      sound = record {
        within = front.within;
        few = sound.few;
        chunks = omega (arith, sound.chunks, past);
        pieces = omega (arith, sound.pieces, past);
        passed = omega (arith, sound.passed, front.begins, front.some);
        running = λ none. absurd (cc);
        operation = sound.operation;
      };
      gives = λ items. gives_now draws start cursor running some items ∙ (finds items).gives
          ∙ ap (λ later. as_chunk piece ∷ final_of ending ∷ later) (flow_from-done (op_reaction cursor.op draws) done items refl);
      leaves = leaves_now draws start cursor running some ∙ (finds []).leaves;
    }

-- a cursor whose look found its ending
pub cursor_at_end : (draws : Draws) (start : ℕ) (cursor : OpCursor) (ending : Ending) → cursor.ending ≡ None → start < cursor.stop
    → ((items : List Item) → Finds (op_reaction cursor.op draws) cursor.state (rest_at start cursor) items (Ended ending))
    → GivesOnlyEnding draws start cursor (record {
      op = cursor.op;
      state = with_ending (with_chunk cursor.state) ending;
      stop = cursor.stop;
      instant =
          cursor.instant;
      ending = Some ending;
    }) ending
cursor_at_end draws start cursor ending running some finds =
    let done : State = with_ending (with_chunk cursor.state) ending in
    record {
      op = refl;
      stop = refl;
      instant = refl;
      ended = refl;
      done = refl;
      gives = λ items. gives_now draws start cursor running some items ∙ (finds items).gives
          ∙ ap (λ later. final_of ending ∷ later) (flow_from-done (op_reaction cursor.op draws) done items refl);
      leaves = leaves_now draws start cursor running some ∙ (finds []).leaves;
    }
