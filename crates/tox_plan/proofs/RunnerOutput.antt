-- What is to come from a runner, by what it has found and whether it is idle.
use Rattle.std.proofs.Common.{◌≡◌, ℕ, Bool, true, false, List, [], ◌∷◌, ◌++◌, Option, Some, None, refl, ap, ◌∙◌, sym, subst, inl, inr}
use Rattle.std.specs.Prelude.{is_some, IsSome, IfSome}
use Rattle.tox_time.specs.declared.streams.slice.Slice.{Slice}
use Rattle.tox_time.specs.declared.streams.item.Item.{Item}
use Rattle.tox_time.specs.declared.streams.item.Item.TheVariants.{Chunk, Closed, Reset, Quiet}
use Rattle.tox_time.specs.declared.streams.ending.Ending.{Ending}
use Rattle.tox_time.specs.declared.streams.ending.Ending.TheVariants.{StillOpen, Closed as ClosedEnding, Reset as ResetEnding}
use Rattle.tox_time.specs.streams.Table.{final_of, table}
use Rattle.tox_words.specs.Draw.{Draws, draws_of}
use Rattle.tox_defs.specs.declared.operations.op_cursor.OpCursor.{OpCursor}
use Rattle.tox_defs.specs.operations.Look.{as_chunk}
use Rattle.tox_defs.specs.operations.OpCursor.{ending_or}
use Rattle.tox_plan.specs.OpCursors.{to_come_from, AreNested, AreDrained, HaveEnded}
use Rattle.tox_plan.specs.RunnerView.{RunnerView, IsRunning, IsFound, to_come, found_chunk, reader_at, HasNoChunk}
use Rattle.tox_plan.proofs.Endings.{drained-final}

pub to_come-running : (runner : RunnerView) (items : List Item) → runner.ending ≡ None
    → to_come runner items ≡ found_chunk runner.lookahead ++ to_come_from (draws_of runner.drawing) (reader_at runner.position runner.lookahead) runner.cursors
    runner.piece items
to_come-running runner items running =
    ap (λ ending. ending_or ending (found_chunk runner.lookahead ++ to_come_from (draws_of runner.drawing) (reader_at runner.position runner.lookahead)
    runner.cursors runner.piece items)) running

pub to_come-unfound : (runner : RunnerView) (items : List Item) → runner.ending ≡ None → runner.lookahead ≡ None
    → to_come runner items ≡ to_come_from (draws_of runner.drawing) runner.position runner.cursors runner.piece items
to_come-unfound runner items running none =
    to_come-running runner items running
    ∙ ap (λ found. found_chunk found ++ to_come_from (draws_of runner.drawing) (reader_at runner.position found) runner.cursors runner.piece items) none

pub to_come-found : (runner : RunnerView) (cut : Slice) (items : List Item) → runner.ending ≡ None → runner.lookahead ≡ Some cut
    → to_come runner items ≡ as_chunk cut ∷ to_come_from (draws_of runner.drawing) cut.span.stop runner.cursors runner.piece items
to_come-found runner cut items running some =
    to_come-running runner items running
    ∙ ap (λ found. found_chunk found ++ to_come_from (draws_of runner.drawing) (reader_at runner.position found) runner.cursors runner.piece items) some

pub to_come-ended : (runner : RunnerView) (ending : Ending) (items : List Item) → runner.ending ≡ Some ending → to_come runner items ≡ final_of ending ∷ []
to_come-ended runner ending items ended =
    ap (λ ending. ending_or ending (found_chunk runner.lookahead ++ to_come_from (draws_of runner.drawing) (reader_at runner.position runner.lookahead)
    runner.cursors runner.piece items)) ended

-- an idle runner has found nothing
pub idle-unfound : (runner : RunnerView) → IsRunning runner → runner.idle ≡ true → runner.lookahead ≡ None
idle-unfound runner invariant idle = by runner.lookahead refl
  where
    by : (found : Option Slice) → runner.lookahead ≡ found → runner.lookahead ≡ None
    by None is = is
    by (Some cut) is =
        let found : IsFound runner cut = subst (λ found. IfSome found (IsFound runner)) is invariant.found in
        absurd (let both : true ≡ false = sym idle ∙ found.busy in cc)

-- the cursors of an idle runner with no ending are drained
pub idle-drained : (runner : RunnerView) → IsRunning runner → runner.idle ≡ true → runner.ending ≡ None → AreDrained runner.position runner.cursors runner.piece
idle-drained runner invariant idle none =
    subst (λ found. AreDrained (reader_at runner.position found) runner.cursors runner.piece) (idle-unfound runner invariant idle)
    (invariant.drained (invariant.idle idle) none)

-- what is found comes before any ending
pub found-cut : (runner : RunnerView) (cut : Slice) → IsRunning runner → runner.lookahead ≡ Some cut → IsFound runner cut
found-cut runner cut invariant is = subst (λ found. IfSome found (IsFound runner)) is invariant.found

-- drained cursors keep no ending
pub drained-unended : (start : ℕ) (cursors : List OpCursor) (source : Slice) → AreDrained start cursors source → HaveEnded cursors → ⊥
drained-unended start [] source drained ended = ended
drained-unended start (cursor ∷ cursors) source drained (inl some) = let none : is_some cursor.ending ≡ false = ap is_some drained.1 in absurd (cc)
drained-unended start (cursor ∷ cursors) source drained (inr others) = drained-unended cursor.stop cursors source drained.2 others

pub none_of : (ending : Option Ending) → is_some ending ≡ false → ending ≡ None
none_of None none = refl
none_of (Some ending) none = absurd (cc)

pub unknown : (ending : Option Ending) → (IsSome ending → ⊥) → ending ≡ None
unknown None none = refl
unknown (Some ending) none = absurd (none refl)

pub final-no_chunk : (ending : Ending) → HasNoChunk (final_of ending ∷ [])
final-no_chunk StillOpen = tt
final-no_chunk (ClosedEnding t) = tt
final-no_chunk (ResetEnding t) = tt

pub no_chunk-table : (items : List Item) → HasNoChunk items → table items ≡ []
no_chunk-table [] none = refl
no_chunk-table (Chunk span t ∷ items) none = absurd none
no_chunk-table (Closed t ∷ items) none = no_chunk-table items none
no_chunk-table (Reset t ∷ items) none = no_chunk-table items none
no_chunk-table (Quiet ∷ items) none = no_chunk-table items none

-- no chunk comes any more from drained cursors, once the source says nothing more
pub drained-no_chunk : (draws : Draws) (start : ℕ) (cursors : List OpCursor) (source : Slice) → AreNested start cursors source → AreDrained start cursors source
    → HasNoChunk (to_come_from draws start cursors source (Quiet ∷ []))
drained-no_chunk draws start cursors source nested drained =
    let last : (last : Ending) × (to_come_from draws start cursors source (final_of StillOpen ∷ []) ≡ final_of last ∷ []) =
    drained-final draws start cursors source StillOpen nested drained in
    subst HasNoChunk (sym last.1) (final-no_chunk last.0)

-- no chunk comes any more from a runner that has read its piece, unless it is offered one
pub read-no_chunk : (runner : RunnerView) → IsRunning runner → runner.drained ≡ true → runner.lookahead ≡ None → HasNoChunk (to_come runner (Quiet ∷ []))
read-no_chunk runner invariant read none = from runner.ending refl
  where
    from : (ending : Option Ending) → runner.ending ≡ ending → HasNoChunk (to_come runner (Quiet ∷ []))
    from None is =
        let drained : AreDrained runner.position runner.cursors runner.piece =
        subst (λ found. AreDrained (reader_at runner.position found) runner.cursors runner.piece) none (invariant.drained read is) in
        let nested : AreNested runner.position runner.cursors runner.piece =
        subst (λ found. AreNested (reader_at runner.position found) runner.cursors runner.piece) none (invariant.nested is) in
        subst HasNoChunk (sym (to_come-unfound runner (Quiet ∷ []) is none))
        (drained-no_chunk (draws_of runner.drawing) runner.position runner.cursors runner.piece nested drained)
    from (Some ending) is = subst HasNoChunk (sym (to_come-ended runner ending (Quiet ∷ []) is)) (final-no_chunk ending)

-- a runner that has not read its piece has no ending
pub unread-ending : (runner : RunnerView) → IsRunning runner → runner.drained ≡ false → runner.ending ≡ None
unread-ending runner invariant unread = unknown runner.ending (λ some. let read : runner.drained ≡ true = invariant.ended some in
    absurd (let both : true ≡ false = sym read ∙ unread in cc))

pub unread-busy : (runner : RunnerView) → IsRunning runner → runner.drained ≡ false → runner.idle ≡ false
unread-busy runner invariant unread = by runner.idle refl
  where
    by : (idle : Bool) → runner.idle ≡ idle → runner.idle ≡ false
    by false is = is
    by true is = absurd (let both : true ≡ false = sym (invariant.idle is) ∙ unread in cc)
