-- A stage that takes a final.
use Rattle.std.proofs.Common.{◌≡◌, ℕ, ◌<◌, false, List, [], ◌∷◌, ◌++◌, None, ap, sym, ◌∙◌, arith}
use Rattle.std.proofs.lemmas.List.{append-nil}
use Rattle.tox_time.specs.declared.streams.item.Item.{Item}
use Rattle.tox_time.specs.declared.streams.item.Item.TheVariants.{Chunk}
use Rattle.tox_time.specs.declared.streams.span.Span.{Span}
use Rattle.tox_time.specs.declared.streams.ending.Ending.{Ending}
use Rattle.tox_time.specs.declared.streams.ending.Ending.TheVariants.{StillOpen, Closed, Reset}
use Rattle.tox_time.specs.streams.Table.{final_of}
use Rattle.tox_words.specs.Draw.{Draws, DrawingView, draws_of}
use Rattle.tox_defs.specs.declared.operations.state.State.{State}
use Rattle.tox_defs.specs.declared.operations.op_cursor.OpCursor.{OpCursor}
use Rattle.tox_time.specs.declared.streams.position.StreamPosition.{StreamPosition}
use Rattle.tox_defs.specs.stage.Reaction.{Reaction, counted, react, flow_from, state_from, state_after, with_ending}
use Rattle.tox_defs.specs.operations.Op.{op_from, op_giving, op_reaction, op_until}
use Rattle.tox_time.specs.streams.StreamPosition.{position_after}
use Rattle.tox_defs.specs.operations.Look.{rest_of}
use Rattle.tox_defs.specs.operations.OpCursor.{cursor_gives, cursor_leaves}
use Rattle.tox_defs.specs.stage.Stage.{Staged, taken}
use Rattle.tox_defs.proofs.FlowLemmas.{state_same, react-running}
use Rattle.tox_defs.proofs.Windows.{is_outside-final, during-inside}
use Rattle.tox_defs.proofs.OpCursors.{rest_of-read, rest_of-unread, cursor_gives-running, cursor_leaves-running}

-- an ending that is given for an ending counts nothing
pub state_after-final : (state : State) (ending last : Ending) → state_after state (final_of ending) (final_of last ∷ []) ≡ with_ending state last
state_after-final state StillOpen StillOpen = state_same _ _ _ _ _ _ _ _ (omega arith) (omega arith) (omega arith)
state_after-final state StillOpen (Closed t) = state_same _ _ _ _ _ _ _ _ (omega arith) (omega arith) (omega arith)
state_after-final state StillOpen (Reset t) = state_same _ _ _ _ _ _ _ _ (omega arith) (omega arith) (omega arith)
state_after-final state (Closed u) StillOpen = state_same _ _ _ _ _ _ _ _ (omega arith) (omega arith) (omega arith)
state_after-final state (Closed u) (Closed t) = state_same _ _ _ _ _ _ _ _ (omega arith) (omega arith) (omega arith)
state_after-final state (Closed u) (Reset t) = state_same _ _ _ _ _ _ _ _ (omega arith) (omega arith) (omega arith)
state_after-final state (Reset u) StillOpen = state_same _ _ _ _ _ _ _ _ (omega arith) (omega arith) (omega arith)
state_after-final state (Reset u) (Closed t) = state_same _ _ _ _ _ _ _ _ (omega arith) (omega arith) (omega arith)
state_after-final state (Reset u) (Reset t) = state_same _ _ _ _ _ _ _ _ (omega arith) (omega arith) (omega arith)

-- a stage with nothing left to emit
read_stage : (drawing : DrawingView) (start : ℕ) (cursor : OpCursor) (place : StreamPosition) → cursor.ending ≡ None → start ≡ cursor.stop
    → ◌≡◌ {A = Staged} (record {
      op = cursor.op;
      drawing = drawing;
      state = cursor_leaves (draws_of drawing) start cursor;
      pending =
          cursor_gives (draws_of drawing) start cursor [];
      place = place;
    })
    (record { op = cursor.op; drawing = drawing; state = cursor.state; pending = []; place = place })
read_stage drawing start cursor place running read =
    let nothing = rest_of-read start cursor.stop cursor.instant (omega (arith, read)) in
    let make : State → List Item → Staged = λ state pending. record { op = cursor.op; drawing = drawing; state = state; pending = pending; place = place } in
    ap (λ state. make state (cursor_gives (draws_of drawing) start cursor []))
    (cursor_leaves-running (draws_of drawing) start cursor running ∙ ap (λ rest. state_from (op_reaction cursor.op (draws_of drawing)) cursor.state rest)
    nothing)
    ∙ ap (make cursor.state) (cursor_gives-running (draws_of drawing) start cursor [] running
    ∙ ap (λ rest. flow_from (op_reaction cursor.op (draws_of drawing)) cursor.state (rest ++ [])) nothing)

-- a running stage that takes a final has what its operation gives for it to emit
pub took_final : (drawing : DrawingView) (start : ℕ) (cursor : OpCursor) (place : StreamPosition) (self : Staged) (item : Item) (ending last : Ending)
    → cursor.ending ≡ None → start ≡ cursor.stop → cursor.state.done ≡ false
    → ◌≡◌ {A = Staged} (record {
      op = cursor.op;
      drawing = drawing;
      state = cursor_leaves (draws_of drawing) start cursor;
      pending =
          cursor_gives (draws_of drawing) start cursor [];
      place = place;
    }) self
    → item ≡ final_of ending → ((draws : Draws) → op_giving cursor.op draws cursor.state (final_of ending) ≡ final_of last ∷ [])
    → ◌≡◌ {A = Staged} (record {
      op = cursor.op;
      drawing = drawing;
      state = with_ending cursor.state last;
      pending = final_of last ∷ [];
      place =
          position_after place item;
    }) (taken self item)
took_final drawing start cursor place self item ending last running read undone view is gives =
    let make : State → List Item → Staged = λ state pending. record {
      op = cursor.op;
      drawing = drawing;
      state = state;
      pending = pending;
      place =
          position_after place item;
    } in
    let reacts : react (op_reaction cursor.op (draws_of drawing)) cursor.state item
    ≡ record { state = with_ending cursor.state last; given = final_of last ∷ [] }
    = react-running (op_reaction cursor.op (draws_of drawing)) cursor.state item undone
    ∙ ap (λ item. op_reaction cursor.op (draws_of drawing) cursor.state item) is
    ∙ during-inside (op_from cursor.op) (op_until cursor.op) (counted (op_giving cursor.op (draws_of drawing))) cursor.state (final_of ending)
    (is_outside-final (op_from cursor.op) (op_until cursor.op) ending)
    ∙ ap (λ given. record { state = state_after cursor.state (final_of ending) given; given = given }) (gives (draws_of drawing))
    ∙ ap (λ state. record { state = state; given = final_of last ∷ [] }) (state_after-final cursor.state ending last) in
    ap (λ answer. make answer.state answer.given) (sym reacts)
    ∙ ap (λ stage. taken stage item) (sym (read_stage drawing start cursor place running read) ∙ view)

-- a running stage that takes a chunk has what its operation gives for it to emit
pub took_chunk : (drawing : DrawingView) (start : ℕ) (cursor : OpCursor) (place : StreamPosition) (self : Staged) (span : Span) (t : ℕ) → cursor.ending ≡ None
    → start ≡ cursor.stop
    → ◌≡◌ {A = Staged} (record {
      op = cursor.op;
      drawing = drawing;
      state = cursor_leaves (draws_of drawing) start cursor;
      pending =
          cursor_gives (draws_of drawing) start cursor [];
      place = place;
    }) self
    → span.start ≡ start → span.start < span.stop
    → ◌≡◌ {A = Staged} (record {
      op = cursor.op;
      drawing = drawing;
      state =
          cursor_leaves (draws_of drawing) start (record cursor { stop = span.stop; instant = t });
      pending =
          cursor_gives (draws_of drawing) start (record cursor { stop = span.stop; instant = t }) [];
      place = position_after place (Chunk span t);
    })
    (taken self (Chunk span t))
took_chunk drawing start cursor place self span t running read view begins some =
    let later : OpCursor = record cursor { stop = span.stop; instant = t } in
    let reaction : Reaction = op_reaction cursor.op (draws_of drawing) in
    let make : State → List Item → Staged = λ state pending. record {
      op = cursor.op;
      drawing = drawing;
      state = state;
      pending = pending;
      place =
          position_after place (Chunk span t);
    } in
    let is_rest : rest_of start span.stop t ≡ Chunk span t ∷ [] =
    rest_of-unread start span.stop t (omega (arith, begins, some)) ∙ ap (λ start. Chunk (record { start = start; stop = span.stop }) t ∷ []) (sym begins) in
    ap (λ state. make state (cursor_gives (draws_of drawing) start later []))
    (cursor_leaves-running (draws_of drawing) start later running ∙ ap (λ rest. state_from reaction cursor.state rest) is_rest)
    ∙ ap (make (react reaction cursor.state (Chunk span t)).state) (cursor_gives-running (draws_of drawing) start later [] running
    ∙ ap (λ rest. flow_from reaction cursor.state (rest ++ [])) is_rest ∙ append-nil (react reaction cursor.state (Chunk span t)).given)
    ∙ ap (λ stage. taken stage (Chunk span t)) (sym (read_stage drawing start cursor place running read) ∙ view)
