-- A runner that looks for its next cut.
use Rattle.std.proofs.Common.{◌≡◌, ℕ, ◌<◌, ◌≤◌, ◌+◌, ◌*◌, ◌^◌, Bool, true, false, List, [], ◌∷◌, length, Option, Some, None, refl, ap, ◌∙◌, sym, subst, arith}
use Rattle.std.proofs.Common.{inl, inr}
use Rattle.std.proofs.Math.Nat.{mul-le-mul_right}
use Rattle.std.proofs.Math.Seq.{take-append_seam}
use Rattle.std.specs.List.{refill}
use Rattle.std.specs.Prelude.{is_some, IsSome, IsNone, IfSome}
use Rattle.tox_time.specs.declared.streams.slice.Slice.{Slice}
use Rattle.tox_time.specs.declared.streams.item.Item.{Item}
use Rattle.tox_time.specs.declared.streams.item.Item.TheVariants.{Chunk, Closed, Reset, Quiet}
use Rattle.tox_time.specs.declared.streams.ending.Ending.{Ending}
use Rattle.tox_time.specs.streams.Table.{final_of}
use Rattle.tox_words.specs.Draw.{draws_of}
use Rattle.tox_defs.specs.declared.operations.op_cursor.OpCursor.{OpCursor}
use Rattle.tox_plan.specs.OpCursors.{AreNested, AreDrained, IsNext, HaveEnded, AreOpenUnless}
use Rattle.tox_plan.specs.RunnerView.{RunnerView, IsRunning, IsFound, to_come, reader_at, round_due, HasNoChunk}
use Rattle.tox_plan.specs.Cuts.{BeginsApart, EndsHere}
use Rattle.tox_plan.proofs.CursorLemmas.{nested-below, drained-at}
use Rattle.tox_plan.proofs.RunnerOutput.{to_come-unfound, to_come-found, to_come-ended, unknown, final-no_chunk, read-no_chunk, unread-ending, unread-busy}

-- a round of looks fits the counter of turns
pub turns_fit : (cursors turns cuts pieces : ℕ) → turns ≤ cursors * (cuts + pieces) → cursors ≤ 32 → cuts ≤ 2 ^ 40 → pieces ≤ 2 ^ 40 → turns + cursors < 2 ^ 64
turns_fit cursors turns cuts pieces counted few few_cuts few_pieces =
    let most : cursors * (cuts + pieces) ≤ 32 * (cuts + pieces) = mul-le-mul_right (cuts + pieces) few in
    omega arith

-- at most one round is due
pub round_due-most : (read : Bool) (found : Option Slice) (round : ℕ) → round_due read found round ≤ round
round_due-most true None round = omega arith
round_due-most false None round = omega arith
round_due-most read (Some cut) round = omega arith

-- a slice that was lent and kept its length is what was written through it
pub refill-whole : (n : ℕ) (old new : List OpCursor) → length new ≡ n → refill n old new ≡ new
refill-whole n old new same_length = rw (← same_length) (take-append_seam new _)

-- nothing is left behind a cut that stops where the piece does, where no cursor keeps an ending
pub drained-behind : (start : ℕ) (cursors : List OpCursor) (source : Slice) → AreNested start cursors source → (HaveEnded cursors → ⊥)
    → start ≡ source.span.stop → AreDrained start cursors source
drained-behind start [] source nested unended at = sym at
drained-behind start (cursor ∷ cursors) source nested unended at =
    let below : cursor.stop ≤ source.span.stop = nested-below cursor.stop cursors source nested.1 in
    let read : cursor.stop ≡ start = omega (arith, nested.0.sound.within, below, at) in
    (read, unknown cursor.ending (λ some. unended (inl some)), drained-behind cursor.stop cursors source nested.1 (λ ended. unended (inr ended)) (read ∙ at))

-- a runner that found its next cut, and whether it is the last
module _ (old : RunnerView) (cursors : List OpCursor) (turns : ℕ) (ended : Bool) (cut : Slice) (last : Bool) where
  abbrev pub after_found : RunnerView
  after_found = record {
    cursors = cursors;
    drawing = old.drawing;
    position = old.position;
    piece = old.piece;
    latest = old.latest;
    lookahead = Some cut;
    drained = last;
    ending = old.ending;
    finished = old.finished;
    idle = old.idle;
    turns = turns;
    ended = ended;
    cuts = old.cuts;
    pieces = old.pieces;
  }

  module _ (invariant : IsRunning old) (unread : old.drained ≡ false) (unfound : old.lookahead ≡ None)
      (next : IsNext (draws_of old.drawing) old.position old.cursors cursors old.piece cut) where
    pub IsRunning-after_found : (last ≡ true → AreDrained cut.span.stop cursors old.piece) → AreOpenUnless ended cursors → length cursors ≡ length old.cursors
        → turns ≤ old.turns + length old.cursors → old.turns ≤ turns → (0 < length old.cursors → old.turns < turns) → IsRunning after_found
    IsRunning-after_found drained unended same_length few_turns more looked =
        let busy : old.idle ≡ false = unread-busy old invariant unread in
        let running : old.ending ≡ None = unread-ending old invariant unread in
        let counted : length old.cursors + old.turns ≤ length old.cursors * (old.cuts + old.pieces) = rw (unfound, unread) at invariant.counted in
        let cuts_looked : 0 < length old.cursors → old.cuts + 0 ≤ old.turns = rw unfound at invariant.looked in
        record {
          nested = λ _. next.nested;
          drained = λ read none. drained read;
          found = record { begins = next.begins; some = next.some; busy = busy; running = running };
          unended = unended;
          ended = λ some. absurd (let known : is_some old.ending ≡ true = some in let unknown : is_some old.ending ≡ false = ap is_some running in cc);
          idle = λ idle. absurd (let both : true ≡ false = sym idle ∙ busy in cc);
          cause = λ some. absurd (let both : true ≡ false = sym (invariant.ended some) ∙ unread in cc);
          reported = invariant.reported;
          reached = invariant.reached;
          here = invariant.here;
          few = invariant.few;
          few_cursors = rw same_length invariant.few_cursors;
          few_cuts = invariant.few_cuts;
          few_pieces = invariant.few_pieces;
          counted = rw same_length (omega (arith, counted, few_turns));
          looked = λ some. omega (arith, cuts_looked (rw (← same_length) some), looked (rw (← same_length) some));
        }

    pub to_come-after_found : (items : List Item) → to_come after_found items ≡ to_come old items
    to_come-after_found items =
        let none : old.ending ≡ None = unread-ending old invariant unread in
        to_come-found after_found cut items none refl ∙ sym (next.gives items) ∙ sym (to_come-unfound old items none unfound)

-- a runner that has read its piece to the end
module _ (old : RunnerView) (cursors : List OpCursor) (turns : ℕ) (ended : Bool) (ending : Option Ending) where
  abbrev pub after_read : RunnerView
  after_read = record {
    cursors = cursors;
    drawing = old.drawing;
    position = old.position;
    piece = old.piece;
    latest = old.latest;
    lookahead = old.lookahead;
    drained = true;
    ending = ending;
    finished = old.finished;
    idle = old.idle;
    turns = turns;
    ended = ended;
    cuts = old.cuts;
    pieces = old.pieces;
  }

  module _ (invariant : IsRunning old) (unread : old.drained ≡ false) (unfound : old.lookahead ≡ None) where
    pub IsRunning-after_read : (ending ≡ None → AreDrained old.position cursors old.piece × AreNested old.position cursors old.piece)
        → (IsSome ending → HaveEnded cursors) → AreOpenUnless ended cursors
        → length cursors ≡ length old.cursors → turns ≤ old.turns + length old.cursors → old.turns ≤ turns → IsRunning after_read
    IsRunning-after_read drained kept unended same_length few_turns more =
        let counted : length old.cursors + old.turns ≤ length old.cursors * (old.cuts + old.pieces) = rw (unfound, unread) at invariant.counted in
        let cuts_looked : 0 < length old.cursors → old.cuts + 0 ≤ old.turns = rw unfound at invariant.looked in
        let running : old.finished ≡ true → ⊥ = (λ reported. let both : true ≡ false = sym (invariant.ended (invariant.reported reported))
        ∙ unread in absurd (cc)) in
        record {
          nested = λ none. rw unfound (drained none).1;
          drained = λ read none. rw unfound (drained none).0;
          found = subst (λ found. IfSome found (IsFound after_read)) (sym unfound) tt;
          unended = unended;
          ended = λ some. refl;
          idle = λ idle. refl;
          cause = λ some. inr (kept some);
          reported = λ reported. absurd (running reported);
          reached = invariant.reached;
          here = invariant.here;
          few = invariant.few;
          few_cursors = rw same_length invariant.few_cursors;
          few_cuts = invariant.few_cuts;
          few_pieces = invariant.few_pieces;
          counted = rw (unfound, same_length) (omega (arith, counted, few_turns));
          looked = λ some. rw unfound (omega (arith, cuts_looked (rw (← same_length) some), more));
        }

-- a piece that was read to its end was given whole, unless the ending is known
pub read-whole : (runner : RunnerView) → IsRunning runner → runner.drained ≡ true → runner.lookahead ≡ None → runner.ending ≡ None
    → runner.position ≡ runner.piece.span.stop
read-whole runner invariant read none open_yet =
    sym (drained-at runner.position runner.cursors runner.piece (subst (λ found. AreDrained (reader_at runner.position found) runner.cursors runner.piece) none
    (invariant.drained read open_yet)))

-- where a look finds no cut, no chunk is left
pub look-none : (old new : RunnerView) → IsRunning new → (IsNone new.lookahead → new.drained ≡ true) → new.lookahead ≡ None
    → ((items : List Item) → to_come new items ≡ to_come old items)
    → HasNoChunk (to_come new (Quiet ∷ [])) × HasNoChunk (to_come old (Quiet ∷ []))
look-none old new invariant read none same =
    let chunks : HasNoChunk (to_come new (Quiet ∷ [])) = read-no_chunk new invariant (read (subst IsNone (sym none) refl)) none in
    (chunks, subst HasNoChunk (same (Quiet ∷ [])) chunks)

-- a list with no chunk has none at an instant
pub no_chunk-apart : (instant : ℕ) (items : List Item) → HasNoChunk items → BeginsApart instant items
no_chunk-apart instant [] none = tt
no_chunk-apart instant (Chunk span t ∷ items) none = absurd none
no_chunk-apart instant (Closed t ∷ items) none = none
no_chunk-apart instant (Reset t ∷ items) none = none
no_chunk-apart instant (Quiet ∷ items) none = none

-- a slice ends where a look finds no cut
pub look-ends : (runner : RunnerView) (instant : ℕ) → IsRunning runner → (IsNone runner.lookahead → runner.drained ≡ true) → runner.lookahead ≡ None
    → EndsHere instant runner
look-ends runner instant invariant read none = from runner.ending refl
  where
    is_read : runner.drained ≡ true
    is_read = read (subst IsNone (sym none) refl)

    from : (ending : Option Ending) → runner.ending ≡ ending → EndsHere instant runner
    from None is =
        let drained : AreDrained runner.position runner.cursors runner.piece =
        subst (λ found. AreDrained (reader_at runner.position found) runner.cursors runner.piece) none (invariant.drained is_read is) in
        inl (sym (drained-at runner.position runner.cursors runner.piece drained))
    from (Some ending) is =
        inr (λ items. subst (BeginsApart instant) (sym (to_come-ended runner ending items is))
        (no_chunk-apart instant (final_of ending ∷ []) (final-no_chunk ending)))
