-- The cursors of a plan at their start mean what the plan means.
use Rattle.std.proofs.Common.{◌≡◌, ℕ, false, List, [], ◌∷◌, ◌++◌, length, length-append, None, refl, ap, sym, subst, ◌∙◌, arith}
use Rattle.std.specs.Prelude.{All}
use Rattle.std.proofs.lemmas.List.Elements.{All-head, All-tail}
use Rattle.tox_time.specs.declared.streams.item.Item.{Item}
use Rattle.tox_time.specs.streams.Stream.{IsStream}
use Rattle.tox_time.specs.streams.Table.{final_of}
use Rattle.tox_words.specs.Draw.{Draws}
use Rattle.tox_defs.specs.declared.operations.op.Op.{Op}
use Rattle.tox_defs.specs.declared.operations.op.Op.TheVariants.{Delay, Pace, Slow, Mute, Cutoff, Slicing, Limit, Halt}
use Rattle.tox_defs.specs.declared.operations.op_cursor.OpCursor.{OpCursor}
use Rattle.tox_defs.specs.stage.Reaction.{flow, flow_through}
use Rattle.tox_defs.specs.operations.Op.{IsOp, is_mute, op_reaction}
use Rattle.tox_defs.specs.operations.OpCursor.{cursor_gives}
use Rattle.tox_defs.proofs.ToxicProofs.Timeout.{flow_from-muted}
use Rattle.tox_defs.proofs.OpStreams.{IsStream-op_flow}
use Rattle.tox_compile.specs.Meaning.{op_reactions}
use Rattle.tox_plan.specs.OpCursors.{ops_of, ending_at_start, cursor_at_start, cursors_at_start, to_come_from, IsCursor, AreNested, AreRead}
use Rattle.tox_plan.specs.RunnerView.{no_piece}
use Rattle.tox_plan.proofs.CursorLemmas.{ops_of-append}

-- a cursor at its start gives its operation's flow of a stream
cursor_gives-at_start : (op : Op) (draws : Draws) (items : List Item) → IsStream items
    → cursor_gives draws 0 (cursor_at_start op) items ≡ flow (op_reaction op draws) items
cursor_gives-at_start (Delay fixed latency jitter lane until from) draws items stream = refl
cursor_gives-at_start (Pace rate until from) draws items stream = refl
cursor_gives-at_start (Slow millis) draws items stream = refl
cursor_gives-at_start (Mute ending) draws items stream = sym (flow_from-muted (final_of ending) items 0 0 0 0 0 0 stream)
cursor_gives-at_start (Cutoff instant) draws items stream = refl
cursor_gives-at_start (Slicing average variation micros lane until from) draws items stream = refl
cursor_gives-at_start (Limit bytes) draws items stream = refl
cursor_gives-at_start (Halt at after end) draws items stream = refl

-- one more cursor at the source's side takes what comes and gives it to the others
to_come_from-snoc : (draws : Draws) (op : Op) (cursors : List OpCursor) (items : List Item) → AreRead 0 cursors no_piece
    → to_come_from draws 0 (cursors ++ cursor_at_start op ∷ []) no_piece items
    ≡ to_come_from draws 0 cursors no_piece (cursor_gives draws 0 (cursor_at_start op) items)
to_come_from-snoc draws op [] items read = refl
to_come_from-snoc draws op (cursor ∷ cursors) items read =
    ap (λ stop. cursor_gives draws 0 cursor (to_come_from draws stop (cursors ++ cursor_at_start op ∷ []) no_piece items)) read.0
    ∙ ap (λ items. cursor_gives draws 0 cursor items) (to_come_from-snoc draws op cursors items (subst (λ stop. AreRead stop cursors no_piece) read.0 read.1))
    ∙ ap (λ stop. cursor_gives draws 0 cursor (to_come_from draws stop cursors no_piece (cursor_gives draws 0 (cursor_at_start op) items))) (sym read.0)

read-snoc : (op : Op) (start : ℕ) (cursors : List OpCursor) → start ≡ 0 → AreRead start cursors no_piece
    → AreRead start (cursors ++ cursor_at_start op ∷ []) no_piece
read-snoc op start [] zero read = (sym zero, refl)
read-snoc op start (cursor ∷ cursors) zero read = (read.0, read-snoc op cursor.stop cursors (read.0 ∙ zero) read.1)

heard-at_start : (op : Op) → ending_at_start op ≡ None → is_mute op ≡ false
heard-at_start (Delay fixed latency jitter lane until from) none = refl
heard-at_start (Pace rate until from) none = refl
heard-at_start (Slow millis) none = refl
heard-at_start (Mute ending) none = absurd (cc)
heard-at_start (Cutoff instant) none = refl
heard-at_start (Slicing average variation micros lane until from) none = refl
heard-at_start (Limit bytes) none = refl
heard-at_start (Halt at after end) none = refl

IsCursor-at_start : (op : Op) (start : ℕ) → IsOp op → start ≡ 0 → IsCursor start (cursor_at_start op)
IsCursor-at_start op start fits zero = record {
  sound = record {
    within = omega (arith, zero);
    few = omega arith;
    chunks = omega arith;
    pieces = omega arith;
    passed = omega arith;
    running = λ none. refl;
    operation = fits;
  };
  heard = heard-at_start op;
}

nested-snoc : (op : Op) (start : ℕ) (cursors : List OpCursor) → IsOp op → start ≡ 0 → AreRead start cursors no_piece → AreNested start cursors no_piece
    → AreNested start (cursors ++ cursor_at_start op ∷ []) no_piece
nested-snoc op start [] fits zero read nested = (IsCursor-at_start op start fits zero, omega arith)
nested-snoc op start (cursor ∷ cursors) fits zero read nested = (nested.0, nested-snoc op cursor.stop cursors fits (read.0 ∙ zero) read.1 nested.1)

pub read-at_start : (ops : List Op) → AreRead 0 (cursors_at_start ops) no_piece
read-at_start [] = refl
read-at_start (op ∷ ops) = read-snoc op 0 (cursors_at_start ops) refl (read-at_start ops)

pub nested-at_start : (ops : List Op) → All IsOp ops → AreNested 0 (cursors_at_start ops) no_piece
nested-at_start [] fit = omega arith
nested-at_start (op ∷ ops) fit = nested-snoc op 0 (cursors_at_start ops) (All-head IsOp op ops fit) refl (read-at_start ops)
    (nested-at_start ops (All-tail IsOp op ops fit))

pub length-cursors_at_start : (ops : List Op) → length (cursors_at_start ops) ≡ length ops
length-cursors_at_start [] = refl
length-cursors_at_start (op ∷ ops) = length-append (cursors_at_start ops) (cursor_at_start op ∷ []) ∙ omega (arith, length-cursors_at_start ops)

-- and the plan's operations
pub ops_of-at_start : (ops : List Op) → ops_of (cursors_at_start ops) ≡ ops
ops_of-at_start [] = refl
ops_of-at_start (op ∷ ops) = ops_of-append (cursors_at_start ops) (cursor_at_start op ∷ []) ∙ ap (λ ops. op ∷ ops) (ops_of-at_start ops)

-- for every stream
pub means-at_start : (ops : List Op) (draws : Draws) (items : List Item) → All IsOp ops → IsStream items
    → to_come_from draws 0 (cursors_at_start ops) no_piece items ≡ flow_through (op_reactions ops draws) items
means-at_start [] draws items fit stream = refl
means-at_start (op ∷ ops) draws items fit stream =
    to_come_from-snoc draws op (cursors_at_start ops) items (read-at_start ops)
    ∙ ap (λ items. to_come_from draws 0 (cursors_at_start ops) no_piece items) (cursor_gives-at_start op draws items stream)
    ∙ means-at_start ops draws (flow (op_reaction op draws) items) (All-tail IsOp op ops fit)
    (IsStream-op_flow op draws items (All-head IsOp op ops fit) stream)
