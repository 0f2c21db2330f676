-- What is still to come from nested cursors.
use Rattle.std.proofs.Common.{◌≡◌, ℕ, ◌<◌, ◌≤◌, false, List, [], ◌∷◌, ◌++◌, append_assoc, None, refl, ap, sym, ◌∙◌, arith, inr}
use Rattle.std.proofs.lemmas.List.{append-nil}
use Rattle.tox_time.specs.declared.streams.slice.Slice.{Slice}
use Rattle.tox_time.specs.declared.streams.item.Item.{Item}
use Rattle.tox_time.specs.declared.streams.ending.Ending.{Ending}
use Rattle.tox_time.specs.streams.Table.{final_of}
use Rattle.tox_words.specs.Draw.{Draws}
use Rattle.tox_defs.specs.declared.operations.op_cursor.OpCursor.{OpCursor}
use Rattle.tox_defs.specs.stage.Reaction.{Answer, counted, flow_from}
use Rattle.tox_defs.specs.operations.Op.{op_from, op_giving, op_reaction, op_until}
use Rattle.tox_defs.specs.operations.Look.{as_chunk, rest_of}
use Rattle.tox_defs.specs.operations.OpCursor.{cursor_gives}
use Rattle.tox_defs.proofs.FlowLemmas.{flow_from-last, react-running}
use Rattle.tox_defs.proofs.Windows.{during-inside, is_outside-final}
use Rattle.tox_defs.proofs.OpCursors.{rest_of-read, rest_of-unread, cursor_gives-running}
use Rattle.tox_plan.specs.OpCursors.{to_come_from, ops_of, AreNested, AreDrained, HaveEnded}

-- the rest from a piece's start to its stop is the piece
pub rest_of-piece : (start : ℕ) (piece : Slice) → piece.span.start ≡ start → start < piece.span.stop
    → rest_of start piece.span.stop piece.instant ≡ as_chunk piece ∷ []
rest_of-piece start piece begins some =
    rest_of-unread start piece.span.stop piece.instant some ∙ ap (λ start.
    as_chunk (record { span = record { start = start; stop = piece.span.stop }; instant = piece.instant }) ∷ []) (sym begins)

-- a cursor that has nothing left gives what its operation gives for an ending
pub cursor_gives-final : (draws : Draws) (start : ℕ) (cursor : OpCursor) (before last : Ending) → cursor.stop ≡ start → cursor.ending ≡ None
    → cursor.state.done ≡ false
    → op_giving cursor.op draws cursor.state (final_of before) ≡ final_of last ∷ []
    → cursor_gives draws start cursor (final_of before ∷ []) ≡ final_of last ∷ []
cursor_gives-final draws start cursor before last read running undone gives =
    cursor_gives-running draws start cursor (final_of before ∷ []) running
    ∙ ap (λ rest. flow_from (op_reaction cursor.op draws) cursor.state (rest ++ final_of before ∷ []))
    (rest_of-read start cursor.stop cursor.instant (omega (arith, read)))
    ∙ flow_from-last (op_reaction cursor.op draws) cursor.state (final_of before) [] refl
    ∙ ap (λ (answer : Answer). answer.given) (react-running (op_reaction cursor.op draws) cursor.state (final_of before) undone
    ∙ during-inside (op_from cursor.op) (op_until cursor.op) (counted (op_giving cursor.op draws)) cursor.state (final_of before)
    (is_outside-final (op_from cursor.op) (op_until cursor.op) before))
    ∙ gives

-- a piece that comes from upstream is the next chunk of a cursor that has nothing left
pub cursor_gives-filled : (draws : Draws) (start : ℕ) (cursor : OpCursor) (piece : Slice) (items : List Item) → cursor.ending ≡ None → cursor.stop ≡ start
    → piece.span.start ≡ cursor.stop → cursor.stop < piece.span.stop
    → cursor_gives draws start cursor (as_chunk piece ∷ items) ≡ cursor_gives draws start (record cursor { stop = piece.span.stop; instant = piece.instant })
    items
cursor_gives-filled draws start cursor piece items running read begins some =
    cursor_gives-running draws start cursor (as_chunk piece ∷ items) running
    ∙ ap (λ rest. flow_from (op_reaction cursor.op draws) cursor.state (rest ++ as_chunk piece ∷ items))
    (rest_of-read start cursor.stop cursor.instant (omega (arith, read)))
    ∙ ap (λ rest. flow_from (op_reaction cursor.op draws) cursor.state (rest ++ items))
    (sym (rest_of-piece start piece (begins ∙ read) (omega (arith, read, some))))
    ∙ sym (cursor_gives-running draws start (record cursor { stop = piece.span.stop; instant = piece.instant }) items running)

-- the reader of nested cursors stands in the source's piece, or at its end
pub nested-below : (start : ℕ) (cursors : List OpCursor) (source : Slice) → AreNested start cursors source → start ≤ source.span.stop
nested-below start [] source nested = nested
nested-below start (cursor ∷ cursors) source nested =
    let below : cursor.stop ≤ source.span.stop = nested-below cursor.stop cursors source nested.1 in
    omega (arith, nested.0.sound.within)

-- a longer source keeps cursors nested
pub nested-longer : (start : ℕ) (cursors : List OpCursor) (old new : Slice) → old.span.stop ≤ new.span.stop → AreNested start cursors old
    → AreNested start cursors new
nested-longer start [] old new longer nested = omega (arith, nested, longer)
nested-longer start (cursor ∷ cursors) old new longer nested = (nested.0, nested-longer cursor.stop cursors old new longer nested.1)

-- what the source gives where nothing is left of its piece
pub to_come_from-read : (draws : Draws) (start : ℕ) (source : Slice) (items : List Item) → source.span.stop ≡ start
    → to_come_from draws start [] source items ≡ items
to_come_from-read draws start source items read = ap (λ rest. rest ++ items) (rest_of-read start source.span.stop source.instant (omega (arith, read)))

-- drained cursors stand at the end of the source's piece
pub drained-at : (start : ℕ) (cursors : List OpCursor) (source : Slice) → AreDrained start cursors source → source.span.stop ≡ start
drained-at start [] source drained = drained
drained-at start (cursor ∷ cursors) source drained = drained-at cursor.stop cursors source drained.2 ∙ drained.0

-- drained cursors give nothing where nothing more arrives
pub drained-silent : (draws : Draws) (start : ℕ) (cursors : List OpCursor) (source : Slice) → AreDrained start cursors source
    → to_come_from draws start cursors source [] ≡ []
drained-silent draws start [] source drained = to_come_from-read draws start source [] drained
drained-silent draws start (cursor ∷ cursors) source drained =
    ap (λ items. cursor_gives draws start cursor items) (drained-silent draws cursor.stop cursors source drained.2)
    ∙ cursor_gives-running draws start cursor [] drained.1
    ∙ ap (λ rest. flow_from (op_reaction cursor.op draws) cursor.state (rest ++ [])) (rest_of-read start cursor.stop cursor.instant (omega (arith, drained.0)))

-- the next piece of the source is the next item of what comes to drained cursors
pub drained-offered : (draws : Draws) (start : ℕ) (cursors : List OpCursor) (old new : Slice) (items : List Item) → AreDrained start cursors old
    → new.span.start ≡ old.span.stop → new.span.start < new.span.stop
    → to_come_from draws start cursors new items ≡ to_come_from draws start cursors old (as_chunk new ∷ items)
drained-offered draws start [] old new items drained after some =
    ap (λ rest. rest ++ items) (rest_of-piece start new (after ∙ drained) (omega (arith, drained, after, some)))
    ∙ ap (λ rest. rest ++ as_chunk new ∷ items) (sym (rest_of-read start old.span.stop old.instant (omega (arith, drained))))
drained-offered draws start (cursor ∷ cursors) old new items drained after some =
    ap (λ items. cursor_gives draws start cursor items) (drained-offered draws cursor.stop cursors old new items drained.2 after some)

-- the operations of cursors behind others
pub ops_of-append : (xs ys : List OpCursor) → ops_of (xs ++ ys) ≡ ops_of ys ++ ops_of xs
ops_of-append [] ys = sym (append-nil (ops_of ys))
ops_of-append (x ∷ xs) ys = ap (λ ops. ops ++ x.op ∷ []) (ops_of-append xs ys) ∙ append_assoc (ops_of ys) (ops_of xs) (x.op ∷ [])

-- an ending that is kept behind other cursors
pub ended-behind : (xs ys : List OpCursor) → HaveEnded ys → HaveEnded (xs ++ ys)
ended-behind [] ys ended = ended
ended-behind (x ∷ xs) ys ended = inr (ended-behind xs ys ended)
