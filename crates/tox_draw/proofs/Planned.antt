-- What a runner gives, drawn step by step.
use Rattle.std.proofs.Common.{◌≡◌, ℕ, ◌+◌, ◌-◌, ◌<◌, ◌≤◌, ◌^◌, true, false, List, [], ◌∷◌, ◌++◌, replicate, Option, Some, None, Ok, Err, refl, ap, sym, subst}
use Rattle.std.proofs.Common.{◌∙◌, append_assoc, append-nil, length-append, arith, max}
use Rattle.std.proofs.lemmas.Bool.Decides.{nat_tests}
use Rattle.std.proofs.lemmas.List.{length-replicate}
use Rattle.tox_time.specs.declared.streams.arrivals.ArrivalFault.{ArrivalFault}
use Rattle.tox_time.specs.declared.streams.ending.Ending.{Ending}
use Rattle.tox_time.specs.declared.streams.ending.Ending.TheVariants.{StillOpen, Closed as ClosedAt, Reset as ResetAt}
use Rattle.tox_time.specs.declared.streams.item.Item.{Item}
use Rattle.tox_time.specs.declared.streams.item.Item.TheVariants.{Closed}
use Rattle.tox_time.specs.declared.streams.position.StreamPosition.{StreamPosition}
use Rattle.tox_time.specs.declared.streams.slice.Slice.{Slice}
use Rattle.tox_time.specs.streams.Arrivals.{piece_fault}
use Rattle.tox_time.specs.streams.Stream.{IsStream, span_len}
use Rattle.tox_time.specs.streams.Table.{ending, final_of, table}
use Rattle.tox_defs.specs.operations.Look.{as_chunk}
use Rattle.tox_link.specs.declared.notes.LinkEvent.TheVariants.{Piece}
use Rattle.tox_log.specs.declared.event_line.LogLine.TheVariants.{Event}
use Rattle.tox_log.specs.Order.{ComesNext}
use Rattle.tox_plan.specs.Cuts.{IsCut}
use Rattle.tox_plan.specs.RunnerView.{RunnerView, answer_of, next_piece, offer_answer, to_come}
use Rattle.tox_plan.proofs.Deliveries.{goes-cut}
use Rattle.tox_draw.specs.declared.frame.Frame.{Frame}
use Rattle.tox_draw.specs.declared.strand.Strand.{Strand}
use Rattle.tox_draw.specs.Lines.{IsStrand, PassesBytes}
use Rattle.tox_draw.specs.Planning.{DrawsCuts, DrawsPiece, DrawsPlan, DrawsSourceEnd, WaitsAt, piece_behind}

-- a slice more
pub plan-cut : (frame : Frame) (means behind : List Item → List Item) (old new : Strand) (before after : RunnerView) (slice : Slice) (len : ℕ)
    → before.piece.span.stop ≤ 2 ^ 40 → IsCut before after slice → slice.span.start ≡ before.position → after.position ≡ slice.span.stop
    → len ≡ slice.span.stop - slice.span.start
    → PassesBytes frame len slice.instant old new
    → DrawsPlan frame means behind old before → DrawsPlan frame means behind new after
plan-cut frame means behind old new before after slice len few cut at stands is adds plan =
    let part : List ℕ = replicate len slice.instant in
    let some = cut.within.some in
    let comes : (items : List Item) → table (to_come before items) ≡ part ++ table (to_come after items) =
    λ (items : List Item). (goes-cut before after slice [] items cut).tables
    ∙ ap (λ ts. ts ++ table (to_come after items)) (append-nil (replicate (span_len slice.span) slice.instant))
    ∙ ap (λ n. replicate n slice.instant ++ table (to_come after items)) (sym is) in record {
      due = plan.due ++ part;
      drawn = adds plan.due plan.drawn (omega (arith, some, is)) (omega (arith, plan.counted, at, some, cut.within.to, few, is));
      counted = omega (arith, length-append plan.due part, length-replicate len slice.instant, plan.counted, at, stands, some, is);
      tables = λ items stream. append_assoc plan.due part (table (to_come after items)) ∙ ap (λ ts. plan.due ++ ts) (sym (comes items))
          ∙ plan.tables items stream;
      endings = λ items stream. sym (goes-cut before after slice [] items cut).endings ∙ plan.endings items stream;
    }

-- no slice more
pub plan-same : (frame : Frame) (means behind : List Item → List Item) (planned : Strand) (before after : RunnerView) → after.position ≡ before.position
    → ((items : List Item) → to_come after items ≡ to_come before items) → DrawsPlan frame means behind planned before
    → DrawsPlan frame means behind planned after
plan-same frame means behind planned before after at same plan = record {
  due = plan.due;
  drawn = plan.drawn;
  counted = plan.counted ∙ sym at;
  tables = λ items stream. ap (λ items. plan.due ++ table items) (same items) ∙ plan.tables items stream;
  endings = λ items stream. ap ending (same items) ∙ plan.endings items stream;
}

-- what was heard, otherwise put together
pub plan-behind : (frame : Frame) (means behind other : List Item → List Item) (planned : Strand) (runner : RunnerView)
    → ((items : List Item) → other items ≡ behind items)
    → DrawsPlan frame means behind planned runner → DrawsPlan frame means other planned runner
plan-behind frame means behind other planned runner same plan = record {
  due = plan.due;
  drawn = plan.drawn;
  counted = plan.counted;
  tables = λ items stream. plan.tables items (subst IsStream (same items) stream) ∙ ap (λ items. table (means items)) (sym (same items));
  endings = λ items stream. plan.endings items (subst IsStream (same items) stream) ∙ ap (λ items. ending (means items)) (sym (same items));
}

-- a piece that comes next is refused only where the link has ended
fits : (bytes since len t : ℕ) → since ≤ t → 0 < len → bytes + len ≤ 2 ^ 40 → piece_fault bytes since false len t ≡ None
fits bytes since len t later some few = grind (arith, nat_tests, later, some, few)

over : (bytes since len t : ℕ) (fault : Option ArrivalFault) → fault ≡ piece_fault bytes since true len t → answer_of fault ≡ Ok tt → ⊥
over bytes since len t fault is ok = grind (arith, nat_tests, is, ok)

-- the runner takes a piece: its link goes on
pub goes-on : (runner : RunnerView) (len t : ℕ) → offer_answer runner len t ≡ Ok tt → runner.ending ≡ None
goes-on runner len t ok = by runner.ending refl
  where
    by : (last : Option Ending) → runner.ending ≡ last → runner.ending ≡ None
    by None is = is
    by (Some last) is =
        let accepted : answer_of (piece_fault runner.piece.span.stop runner.latest true len t) ≡ Ok tt = rw is at ok in
        absurd (over runner.piece.span.stop runner.latest len t (piece_fault runner.piece.span.stop runner.latest true len t) refl accepted)

-- or refuses it: its link has ended
pub has-ended : (runner : RunnerView) (len t : ℕ) (heard : StreamPosition) (fault : ArrivalFault) → ComesNext heard (Event (Piece len t)) → WaitsAt heard runner
    → offer_answer runner len t ≡ Err fault → (last : Ending) × (runner.ending ≡ Some last)
has-ended runner len t heard fault next waits refused = by runner.ending refl
  where
    by : (last : Option Ending) → runner.ending ≡ last → (last : Ending) × (runner.ending ≡ Some last)
    by (Some last) is = (last, is)
    by None is =
        let rejected : answer_of (piece_fault runner.piece.span.stop runner.latest false len t) ≡ Err fault = rw is at refused in
        let accepted : piece_fault runner.piece.span.stop runner.latest false len t ≡ None =
        fits runner.piece.span.stop runner.latest len t (omega (arith, waits.latest, next.0)) next.2 (omega (arith, waits.stop is, next.3)) in
        let no : Ok tt ≡ Err fault = sym (ap answer_of accepted) ∙ rejected in cc

-- behind its ending nothing comes
pub only-ending : (runner : RunnerView) (last : Ending) → runner.ending ≡ Some last → (items : List Item) → to_come runner items ≡ final_of last ∷ []
only-ending runner last is items = rw is refl

-- a piece that was refused
pub draws-refused : (frame : Frame) (planned : Strand) (runner : RunnerView) (len t : ℕ) (fault : ArrivalFault) → offer_answer runner len t ≡ Err fault
    → DrawsPiece frame planned runner len t planned runner
draws-refused frame planned runner len t fault refused means behind heard next waits plan =
    let ended = has-ended runner len t heard fault next waits refused in
    let same : (items : List Item) → to_come runner items ≡ to_come runner (piece_behind heard len t ∷ items) =
    λ (items : List Item). only-ending runner ended.0 ended.1 items ∙ sym (only-ending runner ended.0 ended.1 (piece_behind heard len t ∷ items)) in (
      record {
        idle = waits.idle;
        few = waits.few;
        stop = λ none. let no : None ≡ Some ended.0 = sym none ∙ ended.1 in cc;
        latest = omega (arith, waits.latest, next.0);
      },
      record {
        due = plan.due;
        drawn = plan.drawn;
        counted = plan.counted;
        tables = λ items stream. ap (λ items. plan.due ++ table items) (same items) ∙ plan.tables (piece_behind heard len t ∷ items) stream;
        endings = λ items stream. ap ending (same items) ∙ plan.endings (piece_behind heard len t ∷ items) stream;
      },
    )

-- a piece that was taken, and what it brings
pub draws-taken : (frame : Frame) (old new : Strand) (before mid after : RunnerView) (len t : ℕ) → offer_answer before len t ≡ Ok tt
    → mid.position ≡ before.position → mid.piece ≡ next_piece before len t → mid.latest ≡ t
    → ((items : List Item) → to_come mid items ≡ to_come before (as_chunk (next_piece before len t) ∷ items))
    → after.idle ≡ true → after.piece ≡ mid.piece → after.latest ≡ mid.latest → DrawsCuts frame old mid new after → DrawsPiece frame old before len t new after
draws-taken frame old new before mid after len t ok at piece latest takes idle same_piece same_latest cuts means behind heard next waits plan =
    let going = goes-on before len t ok in
    let stop : before.piece.span.stop ≡ heard.position = waits.stop going in
    let chunk : as_chunk (next_piece before len t) ≡ piece_behind heard len t =
    ap (λ start. as_chunk (record { span = record { start = start; stop = start + len }; instant = t })) stop in
    let mid_stop : mid.piece.span.stop ≡ heard.position + len = ap (λ piece. piece.span.stop) piece ∙ ap (λ start. start + len) stop in
    let after_stop : after.piece.span.stop ≡ heard.position + len = ap (λ piece. piece.span.stop) same_piece ∙ mid_stop in (
      record {
        idle = idle;
        few = omega (arith, after_stop, next.3);
        stop = λ none. after_stop;
        latest = omega (arith, same_latest, latest);
      },
      cuts means (λ items. behind (piece_behind heard len t ∷ items)) (omega (arith, mid_stop, next.3)) (record {
        due = plan.due;
        drawn = plan.drawn;
        counted = plan.counted ∙ sym at;
        tables = λ items stream. ap (λ items. plan.due ++ table items) (takes items ∙ ap (λ piece. to_come before (piece ∷ items)) chunk)
            ∙ plan.tables (piece_behind heard len t ∷ items) stream;
        endings = λ items stream. ap ending (takes items ∙ ap (λ piece. to_come before (piece ∷ items)) chunk)
            ∙ plan.endings (piece_behind heard len t ∷ items) stream;
      }),
    )

-- the source ends
pub draws-source_end : (frame : Frame) (planned : Strand) (before after : RunnerView) (t end : ℕ) (last : Ending) → end ≡ max before.latest t
    → to_come before (Closed end ∷ []) ≡ final_of last ∷ [] → after ≡ record before { ending = Some last; finished = true; latest = end }
    → DrawsSourceEnd frame planned before t after
draws-source_end frame planned before after t end last is gives ended means behind heard next waits plan =
    let at : end ≡ t = omega (arith, is, waits.latest, next.0) in
    let last_is : after.ending ≡ Some last = ap (λ runner. runner.ending) ended in
    let same : (items : List Item) → to_come after items ≡ to_come before (Closed t ∷ []) =
    λ (items : List Item). only-ending after last last_is items ∙ sym gives ∙ ap (λ end. to_come before (Closed end ∷ [])) at in (
      record {
        idle = ap (λ runner. runner.idle) ended ∙ waits.idle;
        few = subst (λ piece. piece.span.stop ≤ 2 ^ 40) (sym (ap (λ runner. runner.piece) ended)) waits.few;
        stop = λ none. let no : None ≡ Some last = sym none ∙ last_is in cc;
        latest = omega (arith, ap (λ runner. runner.latest) ended, at);
      },
      record {
        due = plan.due;
        drawn = plan.drawn;
        counted = plan.counted ∙ sym (ap (λ runner. runner.position) ended);
        tables = λ items stream. ap (λ items. plan.due ++ table items) (same items) ∙ plan.tables (Closed t ∷ []) stream;
        endings = λ items stream. ap ending (same items) ∙ plan.endings (Closed t ∷ []) stream;
      },
    )

final-table : (last : Ending) → table (final_of last ∷ []) ≡ []
final-table StillOpen = refl
final-table (ClosedAt t) = refl
final-table (ResetAt t) = refl

final-ending : (last : Ending) → ending (final_of last ∷ []) ≡ last
final-ending StillOpen = refl
final-ending (ClosedAt t) = refl
final-ending (ResetAt t) = refl

-- the link ends behind some items: all that was due is drawn
pub plan-whole : (frame : Frame) (means behind : List Item → List Item) (planned : Strand) (runner : RunnerView) (items : List Item) (last : Ending)
    → IsStream (behind items)
    → to_come runner items ≡ final_of last ∷ [] → DrawsPlan frame means behind planned runner
    → IsStrand frame (table (means (behind items))) planned × (last ≡ ending (means (behind items)))
plan-whole frame means behind planned runner items last stream only plan =
    let all : plan.due ≡ table (means (behind items)) =
    sym (append-nil plan.due) ∙ ap (λ ts. plan.due ++ ts) (sym (ap table only ∙ final-table last)) ∙ plan.tables items stream in (
      subst (λ ts. IsStrand frame ts planned) all plan.drawn,
      sym (ap ending only ∙ final-ending last) ∙ plan.endings items stream,
    )
